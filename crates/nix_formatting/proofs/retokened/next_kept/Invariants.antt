use Rattle.std.proofs.Common.{◌≡◌, length}
use Rattle.nix_formatting.specs.{WalkSteps.steps_of, KeptPairs.kept_of}
use Rattle.nix_formatting.proofs.retokened.next_kept.Given as goal

-- the remaining events have the same kept steps as all events
abbrev pub invariant-loop-event : goal.invariant-loop-event
invariant-loop-event l = kept_of l.walk ≡ kept_of l.fn.walk

abbrev pub decreases-loop-event : goal.decreases-loop-event
decreases-loop-event l = length (steps_of l.walk)
