use Rattle.{std.proofs.Common.◌≤◌, rnix.specs.Inside.{inside_count, nodes_count}}
use Rattle.rnix_test_examples.proofs.recursion.+nested_sets.Given as goal

abbrev pub decreases-nested_sets : goal.decreases-nested_sets
decreases-nested_sets l = inside_count l.node.now

abbrev pub invariant-loop-child : goal.invariant-loop-child
invariant-loop-child l =
    (goal.iterator-loop-child).can_next l.child-iterator ×
    (goal.iterator-loop-child).is_finite l.child-iterator ×
    (nodes_count l.child-iterator ≤ inside_count l.node)
