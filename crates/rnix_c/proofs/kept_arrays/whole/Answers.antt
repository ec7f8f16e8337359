use Rattle.std.proofs.Common.{arith}
use Rattle.rnix_c.proofs.WrittenElements.{cut_off}
use Rattle.rnix_c.proofs.kept_arrays.whole.Goals as goal

pub returns : goal.returns
returns c = λ tree h.
    cut_off tree c.args.ranges.now c.args.links.now _ h (omega (arith, c.min-count.ensures, c.min.ensures, c.element_count.ensures))
