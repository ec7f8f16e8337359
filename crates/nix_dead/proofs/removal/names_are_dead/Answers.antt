use Rattle.std.proofs.Common.{◌∙◌, sym}
use Rattle.nix_dead.specs.Removal.{is_dead}
use Rattle.nix_dead.proofs.RemovalLemmas.{one_fails, one_passes}
use Rattle.nix_dead.proofs.removal.names_are_dead.Goals as goal

pub returns-then-not-is_dead : goal.returns-then-not-is_dead
returns-then-not-is_dead c =
    one_fails (is_dead c.args.dead.now) _ _ _ c.syntax.result.now _ c.in-Some.ensures.steps c.syntax.ensures.node c.loop-name.invariant.decide
    (sym c.is_dead.ensures ∙ c.if-not-is_dead.true)

pub loop-name-preserved : goal.loop-name-preserved
loop-name-preserved c = record {
  next = tt;
  ends = tt;
  decide = one_passes (is_dead c.args.dead.now) _ _ _ c.syntax.result.now _ c.in-Some.ensures.steps c.syntax.ensures.node c.loop-name.invariant.decide
      (sym c.is_dead.ensures ∙ c.if-not-is_dead.false);
}
