use Rattle.std.proofs.Common.{refl, arith}
use Rattle.rnix_c.proofs.WrittenElements.{next_kept}
use Rattle.rnix_c.proofs.kept_arrays.elements_of.Goals as goal

pub loop-number-preserved : goal.loop-number-preserved
loop-number-preserved c = λ tree h.
    next_kept tree c.args.ranges.now c.args.links.now c.loop-number.number _ _ c.loop-number.list c.add.new.list _ _ h (omega arith) refl refl
    c.in_ok-add.ensures (c.loop-number.invariant tree h)
