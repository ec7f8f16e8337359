use Rattle.std.{proofs.Common.{◌≡◌, map, take}, specs.Prelude.string_bytes}
use Rattle.nix_update.specs.PathSteps.{definitions_in}
use Rattle.nix_update.proofs.definitions.definitions_of.Given as goal

abbrev pub invariant-loop-step : goal.invariant-loop-step
invariant-loop-step l = l.definitions.items ≡ definitions_in (map string_bytes l.names) l.of_let (take l.step-index l.steps)
