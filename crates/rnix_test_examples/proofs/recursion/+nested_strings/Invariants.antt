use Rattle.{std.proofs.Common.◌≤◌, rnix.specs.{Inside.{inside_count, interpolations_count}, Sums.expr_node}}
use Rattle.rnix_test_examples.proofs.recursion.+nested_strings.Given as goal

abbrev pub decreases-nested_strings : goal.decreases-nested_strings
decreases-nested_strings l = inside_count (expr_node l.expr.now)

abbrev pub invariant-loop-part : goal.invariant-loop-part
invariant-loop-part l =
    (goal.iterator-loop-part).can_next l.part-iterator ×
    (goal.iterator-loop-part).is_finite l.part-iterator ×
    (interpolations_count l.part-iterator ≤ inside_count (expr_node l.expr))
