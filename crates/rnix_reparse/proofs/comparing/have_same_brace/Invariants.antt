use Rattle.std.proofs.Common.{◌-◌, length}
use Rattle.rnix_green.specs.Tree.{items_of}
use Rattle.rnix_reparse.specs.OwnBrackets.{HaveSameBraceAt}
use Rattle.rnix_reparse.proofs.comparing.have_same_brace.Given as goal

-- the same trivia are before the elements that are reached
abbrev pub invariant-loop-old : goal.invariant-loop-old
invariant-loop-old l = HaveSameBraceAt l.green l.other l.old l.new → HaveSameBraceAt l.green l.other l.number l.twin

abbrev pub decreases-loop-old : goal.decreases-loop-old
decreases-loop-old l = length (items_of l.green) - l.old
