use Rattle.std.proofs.Common.{◌≡◌, ◌++◌, map, take}
use Rattle.std.specs.Prelude.{flat_map}
use Rattle.nix_scopes.specs.Bound.{resolved_of}
use Rattle.nix_lints.specs.{Found.found_of, UnboundNames.found_by_name}
use Rattle.nix_lints.proofs.names.add_unbound_names.Given as goal

-- the findings on the references so far
abbrev pub invariant-loop-reference : goal.invariant-loop-reference
invariant-loop-reference l =
    map found_of l.found.items ≡ map found_of l.fn.found.items ++ flat_map found_by_name (map resolved_of (take l.reference-index l.reference-items))
