use Rattle.std.proofs.Common.{map, take}
use Rattle.nix_scopes.specs.Bound.{resolved_of}
use Rattle.nix_lints.specs.NeedlessWith.{ArePlaces}
use Rattle.nix_lints.proofs.needless_with.open_places.Given as goal

-- the places so far
abbrev pub invariant-loop-reference : goal.invariant-loop-reference
invariant-loop-reference l = ArePlaces (map resolved_of (take l.reference-index l.references)) l.places
