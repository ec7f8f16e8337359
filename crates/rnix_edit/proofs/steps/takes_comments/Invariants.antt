use Rattle.rnix_edit.specs.Steps.{steps_of}
use Rattle.rnix_edit.proofs.StepLemmas.{RestHasComments}
use Rattle.rnix_edit.proofs.steps.takes_comments.Given as goal

-- the remaining steps begin with the remaining number of comments exactly if all steps began with all of them
abbrev pub invariant-loop-remaining : goal.invariant-loop-remaining
invariant-loop-remaining l = RestHasComments l.count (steps_of l.fn.events) l.remaining (steps_of l.events)

-- the remaining number of comments
abbrev pub decreases-loop-remaining : goal.decreases-loop-remaining
decreases-loop-remaining l = l.remaining
