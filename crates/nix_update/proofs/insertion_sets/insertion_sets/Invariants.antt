use Rattle.std.{proofs.Common.{◌≡◌, take}, specs.Prelude.flat_map}
use Rattle.nix_update.specs.Updated.{insertion_set_if}
use Rattle.nix_update.proofs.insertion_sets.insertion_sets.Given as goal

abbrev pub invariant-loop-step : goal.invariant-loop-step
invariant-loop-step l = l.sets.items ≡ flat_map (insertion_set_if l.most) (take l.step-index l.steps)
