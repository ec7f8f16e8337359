use Rattle.std.proofs.Common.{subst, sym}
use Rattle.std.specs.Bool.{Decides}
use Rattle.std.proofs.Common.{◌≡◌}
use Rattle.rnix_edit.specs.{Steps.step_of, SameSteps.same_step_decides}
use Rattle.rnix_edit.proofs.steps.is_step.Goals as goal

pub returns : goal.returns
returns c =
    subst (λ r. Decides r (step_of c.args.a ≡ step_of c.args.b)) (sym c.eq.ensures) (same_step_decides (step_of c.args.a) (step_of c.args.b))
