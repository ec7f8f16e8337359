use Rattle.std.proofs.Common.{◌≡◌, map, take}
use Rattle.{rnix_green.specs.{Kept.{kept_of}, Tree.{Tree, items_of}}, rnix_c.specs.KeptArrays.{HoldTree}}
use Rattle.rnix_c.proofs.kept_arrays.elements_of.Given as goal

abbrev pub invariant-loop-number : goal.invariant-loop-number
invariant-loop-number l = (tree : Tree) → HoldTree l.ranges l.links tree → l.list ≡ map kept_of (take l.number (items_of tree))
