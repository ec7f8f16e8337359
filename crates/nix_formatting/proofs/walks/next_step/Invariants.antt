use Rattle.std.proofs.Common.{◌≡◌}
use Rattle.nix_formatting.specs.WalkSteps.{steps_of}
use Rattle.nix_formatting.proofs.walks.next_step.Given as goal

-- the remaining events have the same steps as all events
abbrev pub invariant-loop-event : goal.invariant-loop-event
invariant-loop-event l = record {
  next : (goal.iterator-loop-event).can_next l.walk;
  ends : (goal.iterator-loop-event).is_finite l.walk;
  rest : steps_of l.walk ≡ steps_of l.fn.walk;
}
