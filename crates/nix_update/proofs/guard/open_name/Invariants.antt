use Rattle.std.{proofs.Common.{◌≡◌, false, map, take, string_bytes}, specs.List.All}
use Rattle.rnix_green.specs.Range.{bounds_of}
use Rattle.nix_scopes.specs.declared.resolution.Reference.{Reference}
use Rattle.nix_update.specs.SameNames.{is_open_among}
use Rattle.nix_update.proofs.guard.open_name.Given as goal

-- no reference so far is one of these
abbrev pub invariant-loop-reference : goal.invariant-loop-reference
invariant-loop-reference l =
    All (λ (reference : Reference). is_open_among (bounds_of l.range) (map string_bytes l.names) reference ≡ false) (take l.reference-index l.reference-items)
