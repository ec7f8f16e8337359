use Rattle.{std.proofs.Common.arith, nix_scopes.{specs.Alike.{rename_by, RefersAlike}, proofs.AlikeLemmas.alike_more}}
use Rattle.nix_scopes.proofs.renaming.refer_alike.Goals as goal

pub loop-index-preserved : goal.loop-index-preserved
loop-index-preserved c =
    alike_more (RefersAlike (rename_by c.args.name.now)) c.args.references.now c.args.others.now c.loop-index.index c.index-references-index.result
    c.index-others-index.result
    c.loop-index-test.true (omega (arith, c.loop-index-test.true, c.if-references-others.false)) c.index-references-index.is c.index-others-index.is
    c.loop-index.invariant (c.refers.ensures.0 c.if-not-refers.false)
