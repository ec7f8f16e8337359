use Rattle.std.proofs.Common.{◌≡◌, ◌++◌, length, map, take, drop}
use Rattle.rnix_green.specs.SplicedElements.{restarted}
use Rattle.rnix_green.proofs.in_place.move_starts.Given as goal

abbrev pub invariant-loop-index : goal.invariant-loop-index
invariant-loop-index l = record {
  count : length l.elements ≡ length l.initial.elements;
  moved :
      take l.index l.elements ++ map (restarted l.start l.new_start) (drop l.index l.elements)
      ≡ take l.from l.initial.elements ++ map (restarted l.start l.new_start) (drop l.from l.initial.elements);
}
