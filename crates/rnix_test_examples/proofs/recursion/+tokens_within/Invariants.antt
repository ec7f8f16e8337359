use Rattle.{std.proofs.Common.◌≤◌, rnix.specs.Inside.{inside_count, spots_count}}
use Rattle.rnix_test_examples.proofs.recursion.+tokens_within.Given as goal

abbrev pub decreases-tokens_within : goal.decreases-tokens_within
decreases-tokens_within l = inside_count l.node.now

abbrev pub invariant-loop-element : goal.invariant-loop-element
invariant-loop-element l =
    (goal.iterator-loop-element).can_next l.element-iterator ×
    (goal.iterator-loop-element).is_finite l.element-iterator ×
    (spots_count l.element-iterator ≤ inside_count l.node)
