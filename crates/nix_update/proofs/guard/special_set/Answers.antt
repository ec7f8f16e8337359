use Rattle.std.proofs.Common.{◌≡◌, ◌∙◌, false, map, string_bytes, sym, subst, arith}
use Rattle.std.specs.List.{All}
use Rattle.std.proofs.lemmas.List.{take_all, Elements.All-more}
use Rattle.nix_update.specs.declared.steps.PathStep.{PathStep}
use Rattle.nix_update.specs.SpecialNames.{is_special_step}
use Rattle.nix_update.proofs.guard.special_set.Goals as goal

pub loop-step-preserved : goal.loop-step-preserved
loop-step-preserved c =
    let other = λ (w : PathStep). is_special_step (map string_bytes c.args.site.names.now) w ≡ false in
    All-more other c.args.site.steps.now c.loop-step.step-index c.step-item.result c.loop-step-test.true c.loop-step.invariant
    (subst other c.step-item.is (sym c.is_special_step.ensures ∙ c.if-is_special_step.false))

pub returns-clause-none : goal.returns-clause-none
returns-clause-none c =
    let other = λ (w : PathStep). is_special_step (map string_bytes c.args.site.names.now) w ≡ false in
    subst (All other) (take_all c.loop-step.step-index c.args.site.steps.now (omega (arith, c.loop-step-test.false))) c.loop-step.invariant
