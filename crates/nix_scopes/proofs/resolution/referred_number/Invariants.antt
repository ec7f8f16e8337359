use Rattle.{std.proofs.Common.{◌≡◌, drop}, rnix_green.specs.Range.bounds_of, nix_scopes.specs.Occurrences.referred_number}
use Rattle.nix_scopes.proofs.resolution.referred_number.Given as goal

abbrev pub invariant-loop-reference : goal.invariant-loop-reference
invariant-loop-reference l = referred_number (bounds_of l.extent) l.references ≡ referred_number (bounds_of l.extent) (drop l.reference-index l.references)
