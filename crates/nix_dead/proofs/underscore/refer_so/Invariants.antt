use Rattle.std.proofs.Common.{◌≡◌, take, false}
use Rattle.std.specs.List.{list_any}
use Rattle.nix_dead.specs.Underscore.{refers_so}
use Rattle.nix_dead.proofs.underscore.refer_so.Given as goal

abbrev pub invariant-loop-reference : goal.invariant-loop-reference
invariant-loop-reference l = list_any (refers_so l.other) (take l.reference-index l.references) ≡ false
