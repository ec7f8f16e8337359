use Rattle.std.proofs.Common.{◌≡◌}
use Rattle.rnix_edit.specs.Blanks.{blanks_start}
use Rattle.rnix_edit.proofs.blanks.blanks_start.Given as goal

-- the blanks before the offset and those before the current offset begin at the same offset
abbrev pub invariant-loop-start : goal.invariant-loop-start
invariant-loop-start l = blanks_start l.text l.start ≡ blanks_start l.text l.fn.offset

abbrev pub decreases-loop-start : goal.decreases-loop-start
decreases-loop-start l = l.start
