use Rattle.std.proofs.{Common.{◌∙◌, sym, arith}, lemmas.List.length-set}
use Rattle.rnix_green.{specs.SplicedElements.restarted, proofs.OverwrittenNodes.{one_more, no_more}}
use Rattle.rnix_green.proofs.in_place.move_starts.Goals as goal

pub loop-index-preserved : goal.loop-index-preserved
loop-index-preserved c = record {
  count = length-set c.loop-index.elements c.loop-index.index c.restarted.result ∙ c.loop-index.invariant.count;
  moved =
      one_more (restarted c.args.start c.args.new_start) c.loop-index.elements c.loop-index.index _ c.restarted.result (omega arith) c.restarted.ensures
      ∙ c.loop-index.invariant.moved;
}

pub returns : goal.returns
returns c =
    sym (no_more (restarted c.args.start c.args.new_start) c.loop-index.elements c.loop-index.index (omega arith)) ∙ c.loop-index.invariant.moved
