use Rattle.{std.proofs.Common.{◌≡◌, length}, rnix_green.specs.Walk.children_of, rnix_base.specs.Select.tokens_in}
use Rattle.rnix_base.proofs.parts.is_indented.Given as goal

abbrev pub invariant-loop-element : goal.invariant-loop-element
invariant-loop-element l = tokens_in l.elements ≡ tokens_in (children_of l.parent)

abbrev pub decreases-loop-element : goal.decreases-loop-element
decreases-loop-element l = length l.elements
