use Rattle.std.proofs.Common.{◌≡◌}
use Rattle.rnix_edit.specs.Steps.{steps_of}
use Rattle.rnix_edit.proofs.steps.next_step.Given as goal

-- the remaining events have the steps of all events
abbrev pub invariant-loop-event : goal.invariant-loop-event
invariant-loop-event l = record {
  next : (goal.iterator-loop-event).can_next l.events;
  ends : (goal.iterator-loop-event).is_finite l.events;
  steps : steps_of l.events ≡ steps_of l.fn.events;
}
