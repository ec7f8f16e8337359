use Rattle.std.proofs.Common.{sym, ◌∙◌}
use Rattle.rnix_tree.specs.Spots.{event_of}
use Rattle.rnix_edit.specs.Steps.{events_after, is_exited}
use Rattle.rnix_edit.proofs.StepLemmas.{after_more, after_found, exited_more, exited_found}
use Rattle.rnix_edit.proofs.steps.skip_node.Goals as goal

pub loop-event-preserved : goal.loop-event-preserved
loop-event-preserved c = record {
  next = tt;
  ends = tt;
  rest = after_more c.args.target c.loop-event.events c.next.new.self (events_after c.args.target c.args.events.now) (event_of c.in-Some.event)
      c.loop-event.invariant.rest c.in-Some.ensures.steps (sym c.leaves.ensures ∙ c.if-leaves.false);
  found = exited_more c.args.target c.loop-event.events c.next.new.self (is_exited c.args.target c.args.events.now) (event_of c.in-Some.event)
      c.loop-event.invariant.found c.in-Some.ensures.steps (sym c.leaves.ensures ∙ c.if-leaves.false);
}

pub returns-then-leaves : goal.returns-then-leaves
returns-then-leaves c = record {
  rest = after_found c.args.target c.loop-event.events c.next.new.self (events_after c.args.target c.args.events.now) (event_of c.in-Some.event)
      c.loop-event.invariant.rest c.in-Some.ensures.steps (sym c.leaves.ensures ∙ c.if-leaves.true);
  found = exited_found c.args.target c.loop-event.events c.next.new.self (is_exited c.args.target c.args.events.now) (event_of c.in-Some.event)
      c.loop-event.invariant.found c.in-Some.ensures.steps (sym c.leaves.ensures ∙ c.if-leaves.true);
}
