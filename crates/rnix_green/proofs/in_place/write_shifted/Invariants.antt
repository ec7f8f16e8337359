use Rattle.std.proofs.Common.{◌≡◌, map}
use Rattle.std.proofs.Math.Seq.{paste}
use Rattle.rnix_green.specs.SplicedElements.{shifted}
use Rattle.rnix_green.proofs.in_place.write_shifted.Given as goal

abbrev pub invariant-loop-index : goal.invariant-loop-index
invariant-loop-index l = l.elements ≡ paste l.initial.elements l.from (map (shifted l.shift) l.moved) l.index
