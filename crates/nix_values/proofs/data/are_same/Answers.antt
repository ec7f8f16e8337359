use Rattle.std.proofs.Common.{arith}
use Rattle.nix_values.specs.Contents.{entry_of}
use Rattle.nix_values.proofs.SameLemmas.{same_more}
use Rattle.nix_values.proofs.data.are_same.Goals as goal

pub loop-index-preserved : goal.loop-index-preserved
loop-index-preserved c =
    same_more entry_of c.args.ones.now c.args.others.now c.loop-index.index c.index-ones-index.result c.index-others-index.result
    c.loop-index-test.true (omega (arith, c.loop-index-test.true, c.if-ones-others.false)) c.index-ones-index.is c.index-others-index.is
    c.loop-index.invariant (c.is_same.ensures c.if-not-is_same.false)
