use Rattle.std.proofs.Common.{◌≡◌, ◌+◌, drop}
use Rattle.std.specs.List.{prefix_len}
use Rattle.nix_lints.specs.ForeignSpaces.{is_foreign}
use Rattle.nix_lints.proofs.foreign.foreign_len.Given as goal

abbrev pub invariant-loop-index : goal.invariant-loop-index
invariant-loop-index l = l.index + prefix_len is_foreign (drop l.index l.bytes) ≡ prefix_len is_foreign l.bytes
