use Rattle.std.proofs.Common.{◌≡◌}
use Rattle.rnix_edit.specs.Steps.{steps_of, events_before, events_inside}
use Rattle.rnix_edit.proofs.steps.next_before.Given as goal

-- the remaining events have the same steps as all events before the node, and the events inside the node are unchanged
abbrev pub invariant-loop-event : goal.invariant-loop-event
invariant-loop-event l = record {
  next : (goal.iterator-loop-event).can_next l.events;
  ends : (goal.iterator-loop-event).is_finite l.events;
  steps : steps_of (events_before l.target l.events) ≡ steps_of (events_before l.target l.fn.events);
  inside : events_inside l.target l.events ≡ events_inside l.target l.fn.events;
}
