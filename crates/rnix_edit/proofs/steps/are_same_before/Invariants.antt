use Rattle.std.proofs.Common.{◌≡◌, length}
use Rattle.rnix_edit.specs.Steps.{steps_of, events_before, events_inside}
use Rattle.rnix_edit.proofs.steps.are_same_before.Given as goal

-- the remaining steps of both walks are equal exactly if all are, and the events inside both nodes are unchanged
abbrev pub invariant-loop-step : goal.invariant-loop-step
invariant-loop-step l = record {
  there : steps_of (events_before l.new l.others) ≡ steps_of (events_before l.old l.events) →
      steps_of (events_before l.new l.fn.others) ≡ steps_of (events_before l.old l.fn.events);
  back : steps_of (events_before l.new l.fn.others) ≡ steps_of (events_before l.old l.fn.events) →
      steps_of (events_before l.new l.others) ≡ steps_of (events_before l.old l.events);
  inside : events_inside l.old l.events ≡ events_inside l.old l.fn.events;
  others : events_inside l.new l.others ≡ events_inside l.new l.fn.others;
}

-- the remaining steps of the second walk
abbrev pub decreases-loop-step : goal.decreases-loop-step
decreases-loop-step l = length (steps_of (events_before l.new l.others))
