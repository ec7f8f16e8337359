use Rattle.{std.{proofs.Common.{◌≡◌, take, false}, specs.List.list_any}, nix_rename.specs.Refused.inherits}
use Rattle.nix_rename.proofs.refusal.is_inherited.Given as goal

abbrev pub invariant-loop-reference : goal.invariant-loop-reference
invariant-loop-reference l = list_any (inherits l.number) (take l.reference-index l.references) ≡ false
