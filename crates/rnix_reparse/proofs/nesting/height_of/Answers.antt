use Rattle.std.proofs.Common.{ap, ◌∙◌}
use Rattle.rnix_tree.proofs.DumpLemmas.{begun}
use Rattle.rnix_reparse.proofs.WalkHeights.{highest, preorder_height}
use Rattle.rnix_reparse.proofs.nesting.height_of.Goals as goal

pub loop-event-init : goal.loop-event-init
loop-event-init c =
    let is = c.into_iter-event-iterator.ensures.into_iter_gives ∙ c.preorder_with_tokens-event-items.ensures.walk in
    let start = begun c.args.node.now c.into_iter-event-iterator.result is c.preorder_with_tokens-event-items.ensures.count in
    (ap (highest 0 0) is ∙ preorder_height c.args.node.now, start.0, start.1)
