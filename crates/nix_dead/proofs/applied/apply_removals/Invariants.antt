use Rattle.nix_dead.proofs.AppliedLemmas.{IsDraftOf}
use Rattle.nix_dead.proofs.applied.apply_removals.Given as goal

-- the removals that were tried so far
abbrev pub invariant-loop-removal : goal.invariant-loop-removal
invariant-loop-removal l = IsDraftOf l.text l.removals l.applied.items l.edits
