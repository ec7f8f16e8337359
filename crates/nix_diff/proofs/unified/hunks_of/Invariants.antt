use Rattle.std.proofs.Common.{◌≤◌, ◌-◌, ◌++◌, List, take, length}
use Rattle.nix_diff.specs.declared.unified.Hunk.{Hunk}
use Rattle.nix_diff.specs.Hunks.{AreCounts, AreHunks}
use Rattle.nix_diff.proofs.unified.hunks_of.Given as goal

abbrev pub invariant-loop-hunk : goal.invariant-loop-hunk
invariant-loop-hunk l = record {
  within : l.index ≤ length l.diff;
  before : AreCounts (take l.index l.diff) l.before;
  hunks : (rest : List Hunk) → AreHunks l.diff l.index rest → AreHunks l.diff 0 (l.hunks.items ++ rest);
}

abbrev pub decreases-loop-hunk : goal.decreases-loop-hunk
decreases-loop-hunk l = length l.diff - l.index
