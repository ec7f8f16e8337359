use Rattle.std.{proofs.Common.{◌≡◌, false, map, take, string_bytes}, specs.List.All}
use Rattle.nix_update.specs.declared.steps.PathStep.{PathStep}
use Rattle.nix_update.specs.SpecialNames.{is_special_step}
use Rattle.nix_update.proofs.guard.special_set.Given as goal

-- no expression so far has such a name
abbrev pub invariant-loop-step : goal.invariant-loop-step
invariant-loop-step l = All (λ (w : PathStep). is_special_step (map string_bytes l.site.names.now) w ≡ false) (take l.step-index l.step-items)
