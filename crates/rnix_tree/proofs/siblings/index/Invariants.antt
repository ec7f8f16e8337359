use Rattle.{std.proofs.Common.{◌-◌}, rnix_tree.proofs.IndexLemmas.IsCounted}
use Rattle.rnix_tree.proofs.siblings.index.Given as goal

abbrev pub invariant-loop-sibling : goal.invariant-loop-sibling
invariant-loop-sibling l = IsCounted l.green l.number l.parent l.sibling l.index

abbrev pub decreases-loop-sibling : goal.decreases-loop-sibling
decreases-loop-sibling l = l.number - l.sibling
