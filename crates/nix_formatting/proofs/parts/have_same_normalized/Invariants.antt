use Rattle.std.proofs.Common.{◌≡◌, take}
use Rattle.rnix_base.specs.Normal.{owned}
use Rattle.nix_formatting.specs.Bare.{bare_parts}
use Rattle.nix_formatting.proofs.parts.have_same_normalized.Given as goal

abbrev pub invariant-loop-number : goal.invariant-loop-number
invariant-loop-number l = bare_parts (owned (take l.number l.news)) ≡ bare_parts (owned (take l.number l.olds))
