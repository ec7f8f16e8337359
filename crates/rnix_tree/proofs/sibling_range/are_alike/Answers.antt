use Rattle.std.proofs.Common.{sym, ◌∙◌}
use Rattle.rnix_tree.proofs.SiblingsAlike.{one_pair_more}
use Rattle.rnix_tree.proofs.sibling_range.are_alike.Goals as goal

pub loop-index-preserved : goal.loop-index-preserved
loop-index-preserved c =
    one_pair_more c.args.green.now c.args.other_green.now c.args.from.number c.args.from.start c.args.other.number c.args.other.start c.loop-index.index
    c.loop-index.invariant (sym c.is_alike_at.ensures ∙ c.if-not-is_alike_at.false)
