use Rattle.{rnix_reparse.proofs.Climbing.{IsClimbed, left_above}}
use Rattle.rnix_reparse.proofs.nesting.depth_of.Given as goal

abbrev pub invariant-loop-above : goal.invariant-loop-above
invariant-loop-above l = IsClimbed l.green l.number l.depth l.above

abbrev pub decreases-loop-above : goal.decreases-loop-above
decreases-loop-above l = left_above l.above
