use Rattle.{std.proofs.Common.{◌-◌}, rnix_tree.proofs.CoveringLemmas.IsFlanked}
use Rattle.rnix_tree.proofs.covering.child_towards.Given as goal

abbrev pub invariant-loop-child : goal.invariant-loop-child
invariant-loop-child l = IsFlanked l.green l.parent l.number l.child l.above

abbrev pub decreases-loop-child : goal.decreases-loop-child
decreases-loop-child l = l.number - l.child
