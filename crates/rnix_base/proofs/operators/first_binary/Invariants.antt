use Rattle.{std.proofs.Common.{◌≡◌, length}, rnix_green.specs.Walk.children_of, rnix_base.specs.{Select.tokens_in, TokenOperators.{binary_operator, first_operator}}}
use Rattle.rnix_base.proofs.operators.first_binary.Given as goal

abbrev pub invariant-loop-element : goal.invariant-loop-element
invariant-loop-element l = first_operator binary_operator (tokens_in l.elements) ≡ first_operator binary_operator (tokens_in (children_of l.fn.parent))

abbrev pub decreases-loop-element : goal.decreases-loop-element
decreases-loop-element l = length l.elements
