use Rattle.std.{proofs.{Common.{ℕ, List, [], ◌++◌, subst, ap, ◌∙◌, refl}, KnownBytes.{Appends-nil, Appends-trans}}, specs.Io.KnownBytes.Appends}
use Rattle.{rnix_green.specs.Tree.{item_of, extent_of}, rnix_tree.{specs.{Spots.located_of, Lines.line_of, Walked.event_lines}, proofs.DumpLemmas.entered}}
use Rattle.rnix_tree.proofs.DumpLemmas.{deeper, finished, begun}
use Rattle.rnix_tree.proofs.printing.dump.Goals as goal

pub loop-event-init : goal.loop-event-init
loop-event-init g c =
    let is = c.into_iter-event-iterator.ensures.into_iter_gives ∙ c.preorder_with_tokens-event-items.ensures.walk in
    let start = begun c.args.node.now c.into_iter-event-iterator.result is c.preorder_with_tokens-event-items.ensures.count in
    ([], Appends-nil _, ap (event_lines 0) is, start.0, start.1)

pub loop-event-preserved-in-Enter : goal.loop-event-preserved-in-Enter
loop-event-preserved-in-Enter g c =
    let e = c.in-Enter.element in
    let line : List ℕ = line_of c.loop-event.depth (item_of (located_of e)).kind (extent_of (located_of e)) in
    let so_far = c.loop-event.invariant in
    let steps = c.in-Some.ensures.steps in
    let remaining = deeper c.loop-event.depth _ _ _ e (so_far.3, so_far.4) steps c.in-Enter.is in (
      so_far.0 ++ line,
      Appends-trans _ _ _ so_far.0 line so_far.1 c.in_ok-write_line-in-Enter.ensures,
      entered so_far.0 _ c.loop-event.depth _ _ _ _ e so_far.2 steps c.in-Enter.is refl,
      remaining.0,
      remaining.1,
    )

pub returns : goal.returns
returns g c =
    let so_far = c.loop-event.invariant in
    subst (Appends (g.W.Write.contents c.args.out.now) (g.W.Write.contents c.loop-event.out))
    (finished c.args.node.now so_far.0 _ _ so_far.2 c.in-None.ensures.steps.0) so_far.1
