use Rattle.std.proofs.Common.{◌≡◌, drop}
use Rattle.nix_diagnostics.specs.Independence.{ends_between}
use Rattle.nix_diagnostics.proofs.semicolons.ends_between.Given as goal

abbrev pub invariant-loop-index : goal.invariant-loop-index
invariant-loop-index l = ends_between l.set_before l.offset (drop l.index l.semicolons) ≡ ends_between l.set_before l.offset (drop l.from l.semicolons)
