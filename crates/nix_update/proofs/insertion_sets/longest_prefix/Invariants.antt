use Rattle.std.proofs.Common.{◌≡◌, drop}
use Rattle.nix_update.specs.Updated.{longest_prefix}
use Rattle.nix_update.proofs.insertion_sets.longest_prefix.Given as goal

abbrev pub invariant-loop-step : goal.invariant-loop-step
invariant-loop-step l = longest_prefix l.most (drop l.step-index l.steps) ≡ longest_prefix 0 l.steps
