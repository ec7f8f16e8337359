use Rattle.std.proofs.Common.{◌≡◌, length}
use Rattle.rnix_edit.specs.Steps.{steps_of, events_before, events_inside}
use Rattle.rnix_edit.proofs.StepLemmas.{RestContinues}
use Rattle.rnix_edit.proofs.steps.begins_before.Given as goal

-- the walk continues with the remaining steps exactly if it began with all of them, and the events inside the node are unchanged
abbrev pub invariant-loop-step : goal.invariant-loop-step
invariant-loop-step l = record {
  goes_on : RestContinues (steps_of (events_before l.target l.fn.wanted)) (steps_of l.fn.events)
      (steps_of (events_before l.target l.wanted)) (steps_of l.events);
  inside : events_inside l.target l.wanted ≡ events_inside l.target l.fn.wanted;
}

-- the remaining steps
abbrev pub decreases-loop-step : goal.decreases-loop-step
decreases-loop-step l = length (steps_of (events_before l.target l.wanted))
