use Rattle.std.proofs.{Common.{[], ◌++◌, ap, ◌∙◌}, KnownBytes.{Appends-nil, Appends-trans}}
use Rattle.{rnix_tree.{specs.Spots.located_of, proofs.DumpLemmas.{begun, deeper}}, rnix_print.{specs.OutputLines.{element_line, walk_lines}, proofs.WalkLines.entered}}
use Rattle.rnix_print.proofs.tree_lines.write_tree.Goals as goal

pub loop-event-init : goal.loop-event-init
loop-event-init g c =
    let is = c.into_iter-event-iterator.ensures.into_iter_gives ∙ c.preorder_with_tokens-event-items.ensures.walk in
    let start = begun c.args.node.now c.into_iter-event-iterator.result is c.preorder_with_tokens-event-items.ensures.count in
    ([], Appends-nil _, ap (walk_lines 0) is, start.0, start.1)

pub loop-event-preserved-in-Enter : goal.loop-event-preserved-in-Enter
loop-event-preserved-in-Enter g c =
    let e = c.in-Enter.element in
    let so_far = c.loop-event.invariant in
    let steps = c.in-Some.ensures.steps in
    let remaining = deeper c.loop-event.depth _ _ _ e (so_far.3, so_far.4) steps c.in-Enter.is in (
      so_far.0 ++ element_line c.loop-event.depth (located_of e),
      Appends-trans _ _ _ so_far.0 (element_line c.loop-event.depth (located_of e)) so_far.1 c.in_ok-write_line-in-Enter.ensures,
      entered so_far.0 _ c.loop-event.depth _ _ _ e so_far.2 steps c.in-Enter.is,
      remaining.0,
      remaining.1,
    )
