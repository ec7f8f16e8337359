use Rattle.std.proofs.Common.{◌≡◌, length}
use Rattle.rnix_edit.specs.Steps.{steps_of}
use Rattle.rnix_edit.proofs.steps.are_same_walks.Given as goal

-- the remaining steps of both walks are equal exactly if all are
abbrev pub invariant-loop-step : goal.invariant-loop-step
invariant-loop-step l = record {
  there : steps_of l.a ≡ steps_of l.b → steps_of l.fn.a ≡ steps_of l.fn.b;
  back : steps_of l.fn.a ≡ steps_of l.fn.b → steps_of l.a ≡ steps_of l.b;
}

-- the remaining steps of the first walk
abbrev pub decreases-loop-step : goal.decreases-loop-step
decreases-loop-step l = length (steps_of l.a)
