use Rattle.std.proofs.Common.{◌≡◌, take, false}
use Rattle.std.specs.List.{list_any}
use Rattle.nix_dead.specs.Underscore.{is_bound_so}
use Rattle.nix_dead.proofs.underscore.are_bound_so.Given as goal

abbrev pub invariant-loop-binding : goal.invariant-loop-binding
invariant-loop-binding l = list_any (is_bound_so l.other) (take l.binding-index l.bindings) ≡ false
