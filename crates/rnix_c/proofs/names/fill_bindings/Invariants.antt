use Rattle.std.proofs.Common.{◌≡◌, map, take}
use Rattle.{nix_scopes.specs.Bound.{bound_of}, rnix_c.specs.{Answers.{filled}, NameCalls.{binding_of}}}
use Rattle.rnix_c.proofs.names.fill_bindings.Given as goal

abbrev pub invariant-loop-number : goal.invariant-loop-number
invariant-loop-number l = l.room ≡ filled (take l.number (map (λ binding. binding_of binding.first (bound_of binding)) l.bindings)) l.initial.room
