use Rattle.std.proofs.Common.{◌≡◌, ◌∷◌}
use Rattle.rnix_edit.specs.Steps.{step_of, steps_of}
use Rattle.rnix_edit.proofs.{StepLemmas.{walks_end, both_passed, both_remaining}, StepsShown.{alike_there, alike_back, passed_alike}}
use Rattle.rnix_edit.proofs.steps.are_same_walks.Goals as goal

pub loop-step-preserved : goal.loop-step-preserved
loop-step-preserved c =
    let x = step_of c.in-Some.step in
    let y = step_of c.in-Some-next_step.other in
    let a = steps_of c.next_step.new.events in
    let b = steps_of c.next_step-in-Some.new.events in
    let first : steps_of c.loop-step.a ≡ x ∷ a = c.in-Some.ensures in
    let second : steps_of c.loop-step.b ≡ y ∷ b = c.in-Some-next_step.ensures in
    let same : x ≡ y = c.is_step.ensures.0 c.if-is_step.true in
    record {
      there = λ rests. c.loop-step.invariant.there (both_passed x y a b (steps_of c.loop-step.a) (steps_of c.loop-step.b) first second same rests);
      back = λ whole. both_remaining x y a b (steps_of c.loop-step.a) (steps_of c.loop-step.b) first second (c.loop-step.invariant.back whole);
    }

pub returns : goal.returns
returns c =
    walks_end (steps_of c.loop-step.a) (steps_of c.loop-step.b) (steps_of c.args.a) (steps_of c.args.b) _
    c.loop-step.invariant.there c.loop-step.invariant.back c.in_default.ensures c.are_done.ensures

pub loop-step-init : goal.loop-step-init
loop-step-init c =
    let p = passed_alike _ _ _ _ _ _ c.try_pass-misses.ensures.passed in
    record { there = alike_there _ _ _ _ p; back = alike_back _ _ _ _ p }

pub loop-step-preserved-then-not-step : goal.loop-step-preserved-then-not-step
loop-step-preserved-then-not-step c =
    let x = step_of c.in-Some.step in
    let y = step_of c.in-Some-next_step.other in
    let a = steps_of c.next_step.new.events in
    let b = steps_of c.next_step-in-Some.new.events in
    let first : steps_of c.loop-step.a ≡ x ∷ a = c.in-Some.ensures in
    let second : steps_of c.loop-step.b ≡ y ∷ b = c.in-Some-next_step.ensures in
    let same : x ≡ y = c.is_step.ensures.0 c.if-is_step.true in
    let p = passed_alike _ _ _ _ _ _ c.try_pass-misses-then-not-step.ensures.passed in
    record {
      there = λ rests.
          c.loop-step.invariant.there
          (both_passed x y a b (steps_of c.loop-step.a) (steps_of c.loop-step.b) first second same (alike_there _ _ _ _ p rests));
      back = λ whole.
          alike_back _ _ _ _ p (both_remaining x y a b (steps_of c.loop-step.a) (steps_of c.loop-step.b) first second (c.loop-step.invariant.back whole));
    }
