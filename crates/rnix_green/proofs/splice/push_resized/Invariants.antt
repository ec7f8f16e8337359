use Rattle.std.proofs.Common.{◌≡◌, ◌+◌, ◌++◌, drop, length, vec_len, vec_capacity}
use Rattle.rnix_green.specs.SplicedElements.{resized}
use Rattle.rnix_green.proofs.splice.push_resized.Given as goal

abbrev pub invariant-loop-index : goal.invariant-loop-index
invariant-loop-index l =
    (l.elements.items ++ resized l.index (length l.before) l.old l.new (drop l.index l.before)
    ≡ l.initial.elements.items ++ resized 0 (length l.before) l.old l.new l.before)
    × (vec_len l.elements ≡ vec_len l.initial.elements + l.index) × (vec_capacity l.elements ≡ vec_capacity l.initial.elements)
