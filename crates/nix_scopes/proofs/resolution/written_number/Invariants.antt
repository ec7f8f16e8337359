use Rattle.{std.proofs.Common.{◌≡◌, drop}, rnix_green.specs.Range.bounds_of, nix_scopes.specs.Occurrences.written_number}
use Rattle.nix_scopes.proofs.resolution.written_number.Given as goal

abbrev pub invariant-loop-binding : goal.invariant-loop-binding
invariant-loop-binding l = written_number (bounds_of l.extent) l.bindings ≡ written_number (bounds_of l.extent) (drop l.binding-index l.bindings)
