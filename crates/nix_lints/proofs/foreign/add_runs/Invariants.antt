use Rattle.std.proofs.Common.{◌≡◌, ◌+◌, ◌++◌, false, drop, map}
use Rattle.std.specs.Str.{IsCharBoundary}
use Rattle.nix_lints.specs.ForeignSpaces.{run_of, runs_from}
use Rattle.nix_lints.proofs.foreign.add_runs.Given as goal

-- the runs so far, and those that begin later. Outside a run a character begins
abbrev pub invariant-loop-index : goal.invariant-loop-index
invariant-loop-index l = record {
  runs : map run_of l.found.items ++ runs_from (l.start + l.index) l.is_inside (drop l.index l.text)
      ≡ map run_of l.fn.found.items ++ runs_from l.start false l.text;
  boundary : l.is_inside ≡ false → IsCharBoundary l.text l.index;
}
