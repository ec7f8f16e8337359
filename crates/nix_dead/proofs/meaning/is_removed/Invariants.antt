use Rattle.std.proofs.Common.{◌≡◌, take, false}
use Rattle.nix_dead.specs.KeptReferences.{is_removed}
use Rattle.nix_dead.proofs.meaning.is_removed.Given as goal

abbrev pub invariant-loop-removal : goal.invariant-loop-removal
invariant-loop-removal l = is_removed (take l.removal-index l.removals) l.offset ≡ false
