use Rattle.rnix_tree.specs.Spots.{spot_of}
use Rattle.rnix_edit.specs.Line.{closing_start}
use Rattle.rnix_edit.proofs.RestOfLineLemmas.{child_passed}
use Rattle.rnix_edit.proofs.line.closing_start.Goals as goal

pub loop-element-preserved : goal.loop-element-preserved
loop-element-preserved c = record {
  next = tt;
  ends = tt;
  closing = child_passed c.loop-element.element-iterator c.next.new.self (spot_of c.in-Some.element) _ c.loop-element.closing
      c.token_start-closing.result (closing_start c.args.node.now) c.loop-element.invariant.closing c.in-Some.ensures.steps c.token_start-closing.ensures;
}
