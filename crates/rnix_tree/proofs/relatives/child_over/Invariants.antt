use Rattle.rnix_tree.proofs.RelativeLemmas.{IsClimbing}
use Rattle.rnix_tree.proofs.relatives.child_over.Given as goal

abbrev pub invariant-loop-above : goal.invariant-loop-above
invariant-loop-above l = IsClimbing l.green l.parent l.number l.child

abbrev pub decreases-loop-above : goal.decreases-loop-above
decreases-loop-above l = l.child
