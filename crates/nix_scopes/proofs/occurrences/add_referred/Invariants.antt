use Rattle.{std.proofs.Common.{◌≡◌, ◌++◌, map, take}, rnix_green.specs.Range.bounds_of, nix_scopes.specs.Occurrences.referred_at}
use Rattle.nix_scopes.proofs.occurrences.add_referred.Given as goal

abbrev pub invariant-loop-reference : goal.invariant-loop-reference
invariant-loop-reference l =
    map bounds_of l.extents.items ≡ map bounds_of l.fn.extents.items ++ referred_at l.number (take l.reference-index l.references)
