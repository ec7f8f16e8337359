use Rattle.std.proofs.Common.{◌≡◌, drop}
use Rattle.nix_values.specs.Floats.{has_value}
use Rattle.nix_values.proofs.float.has_value.Given as goal

abbrev pub invariant-loop-index : goal.invariant-loop-index
invariant-loop-index l = has_value (drop l.index l.number) ≡ has_value l.number
