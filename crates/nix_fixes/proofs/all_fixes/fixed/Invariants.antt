use Rattle.std.proofs.Common.{◌≤◌, length}
use Rattle.nix_fixes.specs.Rounds.{IsProgress}
use Rattle.nix_fixes.proofs.all_fixes.fixed.Given as goal

abbrev pub invariant-loop-progress : goal.invariant-loop-progress
invariant-loop-progress l = record {
  progress : IsProgress l.text l.progress;
  counted : l.progress.fixes ≤ l.progress.tried;
  within : l.progress.tried ≤ l.most;
}

abbrev pub decreases-loop-progress : goal.decreases-loop-progress
decreases-loop-progress l = length l.progress.read.faults
