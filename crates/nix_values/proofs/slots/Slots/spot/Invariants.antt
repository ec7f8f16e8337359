use Rattle.std.proofs.Common.{◌≡◌, ◌+◌, ◌-◌}
use Rattle.nix_values.specs.declared.slots.TheConstants.{WINDOW}
use Rattle.nix_values.specs.HashSlots.{spot_of, spot_from}
use Rattle.nix_values.proofs.slots.Slots.spot.Given as goal

abbrev pub invariant-loop-step : goal.invariant-loop-step
invariant-loop-step l = spot_of l.self l.hash ≡ spot_from (WINDOW - l.step) (l.first + l.step) l.hash l.self.slots.items
