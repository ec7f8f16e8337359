use Rattle.std.proofs.Common.{◌≡◌, ◌++◌, map}
use Rattle.std.specs.Prelude.{flat_map}
use Rattle.nix_lints.specs.ForeignSpaces.{run_of, runs_at, foreign_in}
use Rattle.nix_lints.proofs.foreign.foreign_spaces.Given as goal

-- the runs so far, and those of the elements that follow
abbrev pub invariant-loop-element : goal.invariant-loop-element
invariant-loop-element l = record {
  next : (goal.iterator-loop-element).can_next l.element-iterator;
  ends : (goal.iterator-loop-element).is_finite l.element-iterator;
  runs : map run_of l.found.items ++ flat_map runs_at l.element-iterator ≡ foreign_in l.root;
}
