use Rattle.std.proofs.Common.{◌≡◌, map, take}
use Rattle.{nix_scopes.specs.Bound.{resolved_of}, rnix_c.specs.{Answers.{filled}, NameCalls.{reference_of}}}
use Rattle.rnix_c.proofs.names.fill_references.Given as goal

abbrev pub invariant-loop-number : goal.invariant-loop-number
invariant-loop-number l = l.room ≡ filled (take l.number (map reference_of (map resolved_of l.references))) l.initial.room
