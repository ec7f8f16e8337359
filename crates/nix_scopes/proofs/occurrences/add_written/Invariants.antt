use Rattle.{std.proofs.Common.{◌≡◌, ◌++◌, map, take}, rnix_green.specs.Range.bounds_of, nix_scopes.specs.Occurrences.written_at}
use Rattle.nix_scopes.proofs.occurrences.add_written.Given as goal

abbrev pub invariant-loop-binding : goal.invariant-loop-binding
invariant-loop-binding l =
    map bounds_of l.extents.items ≡ map bounds_of l.fn.extents.items ++ written_at l.number (take l.binding-index l.bindings)
