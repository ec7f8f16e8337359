use Rattle.std.proofs.Common.{◌<◌, ◌≤◌, length}
use Rattle.nix_diff.proofs.unified.count_changed.Given as goal

abbrev pub invariant-loop-number : goal.invariant-loop-number
invariant-loop-number l = record { some : 0 < l.end; within : l.end ≤ length l.lines }
