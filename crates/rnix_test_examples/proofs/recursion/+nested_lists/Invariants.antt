use Rattle.{std.proofs.Common.◌≤◌, rnix.specs.{Inside.{inside_count, nodes_count, those_of}, NodeKinds.is_expr, Sums.expr_node}}
use Rattle.rnix_test_examples.proofs.recursion.+nested_lists.Given as goal

abbrev pub decreases-nested_lists : goal.decreases-nested_lists
decreases-nested_lists l = inside_count (expr_node l.expr.now)

abbrev pub invariant-loop-item : goal.invariant-loop-item
invariant-loop-item l =
    (goal.iterator-loop-item).can_next l.item-iterator ×
    (goal.iterator-loop-item).is_finite l.item-iterator ×
    (nodes_count (those_of is_expr l.item-iterator) ≤ inside_count (expr_node l.expr))
