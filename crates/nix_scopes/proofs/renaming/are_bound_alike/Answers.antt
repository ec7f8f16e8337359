use Rattle.{std.proofs.Common.arith, nix_scopes.{specs.Alike.{rename_by, IsBoundAlike}, proofs.AlikeLemmas.alike_more}}
use Rattle.nix_scopes.proofs.renaming.are_bound_alike.Goals as goal

pub loop-index-preserved : goal.loop-index-preserved
loop-index-preserved c =
    alike_more (IsBoundAlike (rename_by c.args.name.now)) c.args.bindings.now c.args.others.now c.loop-index.index c.index-bindings-index.result
    c.index-others-index.result
    c.loop-index-test.true (omega (arith, c.loop-index-test.true, c.if-bindings-others.false)) c.index-bindings-index.is c.index-others-index.is
    c.loop-index.invariant (c.binds.ensures.0 c.if-not-binds.false)
