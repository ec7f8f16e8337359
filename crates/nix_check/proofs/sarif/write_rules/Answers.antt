use Rattle.std.proofs.Common.{arith}
use Rattle.nix_check.{specs.AsSarif.rule_object, proofs.ListedPieces.one_joined}
use Rattle.nix_check.proofs.sarif.write_rules.Goals as goal

pub loop-number-preserved : goal.loop-number-preserved
loop-number-preserved g c =
    one_joined rule_object c.args.all.now c.loop-number.number _ (g.W.Write.contents c.args.out.now)
    (g.W.Write.contents c.loop-number.out) (g.W.Write.contents c.write_comma.new.out) (g.W.Write.contents c.write_rule_of.new.out)
    (omega (arith, c.loop-number-test.true)) c.loop-number.invariant c.in_ok-write_comma.ensures c.in_ok-write_rule_of.ensures
