use Rattle.std.proofs.Common.{◌≡◌, refl, ◌∙◌}
use Rattle.rnix_edit.specs.Steps.{step_of, steps_of, events_before}
use Rattle.rnix_edit.proofs.StepsShown.{alike_shorter, alike_goes_on, fewer, step_taken, alike_before, inside_first}
use Rattle.rnix_edit.proofs.steps.begins_before.Goals as goal

pub loop-step-smaller-then-step : goal.loop-step-smaller-then-step
loop-step-smaller-then-step c =
    let p = alike_before _ _ _ _ _ _ c.try_pass-misses.ensures.passed c.args.target refl in
    fewer (step_of c.in-Some.step) _ _ _ c.in-Some.ensures.steps (alike_shorter _ _ _ _ p)

pub loop-step-preserved-then-step : goal.loop-step-preserved-then-step
loop-step-preserved-then-step c =
    let x = step_of c.in-Some.step in
    let y = step_of c.in-Some-next_step.other in
    let first = steps_of (events_before c.args.target c.args.wanted.now) in
    let all = steps_of c.args.events.now in
    let same : x ≡ y = c.is_step.ensures.0 c.if-is_step.true in
    let h = c.try_pass-misses.ensures.passed in
    let p = alike_before _ _ _ _ _ _ h c.args.target refl in
    let taken = step_taken first all x y _ _ _ _ c.loop-step.invariant.goes_on c.in-Some.ensures.steps c.in-Some-next_step.ensures same in
    record {
      goes_on = alike_goes_on _ _ _ _ first all p taken;
      inside = inside_first _ _ _ _ _ _ h c.args.target refl ∙ c.in-Some.ensures.inside ∙ c.loop-step.invariant.inside;
    }
