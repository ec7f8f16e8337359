use Rattle.std.proofs.Common.{sym, ◌∙◌}
use Rattle.rnix_tree.specs.Spots.{event_of}
use Rattle.nix_formatting.proofs.WalkStepLemmas.{passed_over, step_found}
use Rattle.nix_formatting.proofs.walks.next_step.Goals as goal

pub loop-event-preserved : goal.loop-event-preserved
loop-event-preserved c = record {
  next = tt;
  ends = tt;
  rest = passed_over c.args.walk.now c.loop-event.walk c.next.new.self (event_of c.in-Some.event)
      c.loop-event.invariant.rest c.in-Some.ensures.steps (sym c.is_step.ensures ∙ c.if-is_step.false);
}

pub returns-then-is_step : goal.returns-then-is_step
returns-then-is_step c =
    step_found c.args.walk.now c.loop-event.walk c.next.new.self (event_of c.in-Some.event)
    c.loop-event.invariant.rest c.in-Some.ensures.steps (sym c.is_step.ensures ∙ c.if-is_step.true)
