use Rattle.std.proofs.Common.{◌≡◌, ◌+◌, ◌++◌, drop, map, vec_len, vec_capacity}
use Rattle.rnix_green.specs.SplicedElements.{shifted}
use Rattle.rnix_green.proofs.splice.push_shifted.Given as goal

abbrev pub invariant-loop-element : goal.invariant-loop-element
invariant-loop-element l =
    (l.elements.items ++ map (shifted l.shift) (drop l.element-index l.moved) ≡ l.initial.elements.items ++ map (shifted l.shift) l.moved)
    × (vec_len l.elements ≡ vec_len l.initial.elements + l.element-index) × (vec_capacity l.elements ≡ vec_capacity l.initial.elements)
