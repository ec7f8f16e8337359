use Rattle.std.proofs.Common.{sym, ◌∙◌}
use Rattle.std.proofs.lemmas.Bool.{false≢true}
use Rattle.rnix_edit.proofs.SameTreeLemmas.{shown_passed, shown_more, shown_longer, shown_differs, shown_end}
use Rattle.rnix_edit.proofs.same_tree.are_alike.Goals as goal

pub loop-event-init : goal.loop-event-init
loop-event-init c = record { next = tt; ends = tt; alike = shown_passed _ _ _ _ _ _ _ c.pass_alike.ensures }

pub loop-event-preserved : goal.loop-event-preserved
loop-event-preserved c = record {
  next = tt;
  ends = tt;
  alike = shown_more _ _ _ _ _ _ _ _ c.loop-event.invariant.alike c.in-Some.ensures.steps c.in-Some-next.ensures.steps
      (c.shows_same.ensures.0 c.if-not-shows_same.false);
}

pub returns-in_default-next : goal.returns-in_default-next
returns-in_default-next c = (
  λ no. absurd (false≢true no),
  λ whole. absurd (shown_longer _ _ _ _ _ _ c.loop-event.invariant.alike c.in-Some.ensures.steps
      c.in_default-next.ensures.steps.0 whole),
)

pub returns-then-not-shows_same : goal.returns-then-not-shows_same
returns-then-not-shows_same c = (
  λ no. absurd (false≢true no),
  λ whole. absurd (shown_differs _ _ _ _ _ _ _ _ c.loop-event.invariant.alike c.in-Some.ensures.steps
      c.in-Some-next.ensures.steps (λ same. false≢true (sym c.if-not-shows_same.true ∙ c.shows_same.ensures.1 same)) whole),
)

pub returns : goal.returns
returns c =
    shown_end _ _ _ _ _ c.next-2.result _ c.loop-event.invariant.alike c.in_default.ensures.steps.0 c.next-2.ensures.steps c.is_none.ensures
