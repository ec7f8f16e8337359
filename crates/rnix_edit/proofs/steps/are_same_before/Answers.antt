use Rattle.std.proofs.Common.{◌≡◌, ◌∷◌, refl, sym, ◌∙◌}
use Rattle.rnix_edit.specs.Steps.{step_of, steps_of, events_before}
use Rattle.rnix_edit.proofs.StepLemmas.{walks_end, both_passed, both_remaining, none_tested}
use Rattle.rnix_edit.proofs.StepsShown.{alike_there, alike_back, other_shorter, fewer, both_before, inside_first, inside_second}
use Rattle.rnix_edit.proofs.steps.are_same_before.Goals as goal

pub loop-step-preserved : goal.loop-step-preserved
loop-step-preserved c =
    let x = step_of c.in-Some.step in
    let y = step_of c.in-Some-next_before.other in
    let a = steps_of (events_before c.args.new c.next_before.new.events) in
    let b = steps_of (events_before c.args.old c.next_before-in-Some.new.events) in
    let first : steps_of (events_before c.args.new c.loop-step.others) ≡ x ∷ a = c.in-Some.ensures.steps in
    let second : steps_of (events_before c.args.old c.loop-step.events) ≡ y ∷ b = c.in-Some-next_before.ensures.steps in
    let same : x ≡ y = c.is_step.ensures.0 c.if-is_step.true in
    record {
      there = λ rests. c.loop-step.invariant.there (both_passed x y a b _ _ first second same rests);
      back = λ whole. both_remaining x y a b _ _ first second (c.loop-step.invariant.back whole);
      inside = c.in-Some-next_before.ensures.inside ∙ c.loop-step.invariant.inside;
      others = c.in-Some.ensures.inside ∙ c.loop-step.invariant.others;
    }

pub returns-clause-same : goal.returns-clause-same
returns-clause-same c =
    walks_end (steps_of (events_before c.args.new c.loop-step.others)) (steps_of (events_before c.args.old c.loop-step.events))
    (steps_of (events_before c.args.new c.args.others.now)) (steps_of (events_before c.args.old c.args.events.now)) _
    c.loop-step.invariant.there c.loop-step.invariant.back c.in_default.ensures.steps
    (none_tested c.next_before-2.result _ _ _ c.next_before-2.ensures.steps c.is_none.ensures)

pub loop-step-smaller-then-step : goal.loop-step-smaller-then-step
loop-step-smaller-then-step c =
    let p = both_before _ _ _ _ _ _ c.try_pass-misses.ensures.passed c.args.old c.args.new refl refl in
    fewer (step_of c.in-Some.step) _ _ _ c.in-Some.ensures.steps (other_shorter _ _ _ _ p)

pub loop-step-preserved-then-step : goal.loop-step-preserved-then-step
loop-step-preserved-then-step c =
    let x = step_of c.in-Some.step in
    let y = step_of c.in-Some-next_before.other in
    let a = steps_of (events_before c.args.new c.next_before.new.events) in
    let b = steps_of (events_before c.args.old c.next_before-in-Some.new.events) in
    let first : steps_of (events_before c.args.new c.loop-step.others) ≡ x ∷ a = c.in-Some.ensures.steps in
    let second : steps_of (events_before c.args.old c.loop-step.events) ≡ y ∷ b = c.in-Some-next_before.ensures.steps in
    let same : x ≡ y = c.is_step.ensures.0 c.if-is_step.true in
    let h = c.try_pass-misses.ensures.passed in
    let p = both_before _ _ _ _ _ _ h c.args.old c.args.new refl refl in
    record {
      there = λ rests.
          c.loop-step.invariant.there (both_passed x y a b _ _ first second same (sym (alike_there _ _ _ _ p (sym rests))));
      back = λ whole. sym (alike_back _ _ _ _ p (sym (both_remaining x y a b _ _ first second (c.loop-step.invariant.back whole))));
      inside = inside_first _ _ _ _ _ _ h c.args.old refl ∙ c.in-Some-next_before.ensures.inside ∙ c.loop-step.invariant.inside;
      others = inside_second _ _ _ _ _ _ h c.args.new refl ∙ c.in-Some.ensures.inside ∙ c.loop-step.invariant.others;
    }
