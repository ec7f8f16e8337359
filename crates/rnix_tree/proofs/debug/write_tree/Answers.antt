use Rattle.std.{proofs.{Common.{ℕ, List, [], Option, Some, None, Ok, IfSome, subst, ap, ◌∙◌, refl}, Output.has_written_styled_nil}, specs.Fmt.{◌++?◌, IsFlush}}
use Rattle.{std.specs.Fmt.{HasWrittenStyled, DisplaysStyledOnOk}, rnix_tree.specs.{Spots.spot_of, Lines.{text_line, text_lines_of}, Walked.event_texts}}
use Rattle.rnix_tree.proofs.{DumpLemmas.{deeper, begun}, DumpTextLemmas.{entered, finished, nothing_first, written_more}}
use Rattle.rnix_tree.proofs.debug.write_tree.Goals as goal

pub loop-event-init : goal.loop-event-init
loop-event-init g c =
    let is = c.into_iter-event-iterator.ensures.into_iter_gives ∙ c.preorder_with_tokens-event-items.ensures.walk in
    let start = begun c.args.node.now c.into_iter-event-iterator.result is c.preorder_with_tokens-event-items.ensures.count in
    (Some [], has_written_styled_nil _ _, nothing_first _ ∙ ap (event_texts 0) is, start.0, start.1)

pub loop-event-preserved-in-Enter : goal.loop-event-preserved-in-Enter
loop-event-preserved-in-Enter g c =
    let e = c.in-Enter.element in
    let line = text_line c.loop-event.depth (spot_of e) in
    let so_far = c.loop-event.invariant in
    let steps = c.in-Some.ensures.steps in
    let remaining = deeper c.loop-event.depth _ _ _ e (so_far.3, so_far.4) steps c.in-Enter.is in (
      so_far.0 ++? line,
      written_more _ _ _ _ (Ok c.in_ok-write_line-in-Enter.field-0) so_far.0 line so_far.1 c.in_ok-write_line-in-Enter.ensures refl,
      entered so_far.0 _ c.loop-event.depth _ _ _ _ e so_far.2 steps c.in-Enter.is refl,
      remaining.0,
      remaining.1,
    )

pub returns : goal.returns
returns g c =
    let so_far = c.loop-event.invariant in
    let is = finished c.args.node.now so_far.0 _ _ so_far.2 c.in-None.ensures.steps.0 in
    if_flushed (text_lines_of c.args.node.now) (λ flush. subst (λ (o : Option (List ℕ)). IfSome o
    (λ bs. HasWrittenStyled g.W.Write.write_str_gives c.args.f.now bs c.loop-event.f)) is (so_far.1 flush))
  where
    if_flushed : (o : Option (List ℕ)) → (IsFlush c.args.f.now → IfSome o (λ bs. HasWrittenStyled g.W.Write.write_str_gives c.args.f.now bs c.loop-event.f))
        → DisplaysStyledOnOk g.W.Write.write_str_gives c.args.f.now (Ok tt) o c.loop-event.f
    if_flushed None h = tt
    if_flushed (Some bs) h = λ flush _. h flush
