use Rattle.std.proofs.Common.{◌≡◌, take, false}
use Rattle.std.specs.List.{list_any}
use Rattle.nix_dead.specs.Removal.{is_mark}
use Rattle.nix_dead.proofs.removal.has_mark.Given as goal

abbrev pub invariant-loop-byte : goal.invariant-loop-byte
invariant-loop-byte l = list_any is_mark (take l.byte-index l.bytes) ≡ false
