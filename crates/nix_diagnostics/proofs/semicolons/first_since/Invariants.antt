use Rattle.std.proofs.Common.{◌≡◌, drop}
use Rattle.nix_diagnostics.specs.Independence.{since}
use Rattle.nix_diagnostics.proofs.semicolons.first_since.Given as goal

abbrev pub invariant-loop-index : goal.invariant-loop-index
invariant-loop-index l = since l.offset (drop l.index l.semicolons) ≡ since l.offset (drop l.from l.semicolons)
