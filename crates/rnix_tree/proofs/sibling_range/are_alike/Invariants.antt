use Rattle.rnix_tree.specs.AlikeSiblings.{AreAlike}
use Rattle.rnix_tree.proofs.sibling_range.are_alike.Given as goal

-- the elements that were compared are alike
abbrev pub invariant-loop-index : goal.invariant-loop-index
invariant-loop-index l = AreAlike l.green l.other_green l.from.number l.from.start l.other.number l.other.start l.index
