use Rattle.std.proofs.Common.{◌≡◌}
use Rattle.rnix_edit.specs.Steps.{events_after, is_exited}
use Rattle.rnix_edit.proofs.steps.skip_node.Given as goal

-- the remaining events have the same events after the node as all events, and leave the node exactly if all events do
abbrev pub invariant-loop-event : goal.invariant-loop-event
invariant-loop-event l = record {
  next : (goal.iterator-loop-event).can_next l.events;
  ends : (goal.iterator-loop-event).is_finite l.events;
  rest : events_after l.target l.events ≡ events_after l.target l.fn.events;
  found : is_exited l.target l.events ≡ is_exited l.target l.fn.events;
}
