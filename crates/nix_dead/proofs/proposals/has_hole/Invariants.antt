use Rattle.std.{proofs.Common.{◌≡◌, take, false}, specs.List.list_any}
use Rattle.nix_dead.specs.Proposals.{is_hole}
use Rattle.nix_dead.proofs.proposals.has_hole.Given as goal

abbrev pub invariant-loop-reference : goal.invariant-loop-reference
invariant-loop-reference l = list_any is_hole (take l.reference-index l.references) ≡ false
