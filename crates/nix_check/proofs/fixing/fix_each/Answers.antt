use Rattle.std.proofs.Common.{ℕ, List, subst, arith}
use Rattle.nix_check.{specs.{Fixing.IsFileFixed, Tallies.none_tallied}, proofs.CheckedFiles.one_counted}
use Rattle.nix_check.proofs.fixing.fix_each.Goals as goal

pub loop-number-init : goal.loop-number-init
loop-number-init g c = none_tallied

pub loop-number-preserved : goal.loop-number-preserved
loop-number-preserved g c =
    let mid = g.W.Write.contents c.loop-number.out in
    let new = g.W.Write.contents c.fix_file.new.out in
    let texts = g.R.TextReader.texts c.args.reader.now in
    one_counted (IsFileFixed c.args.style texts) c.args.files.now.failed (g.W.Write.contents c.args.out.now) mid new c.args.files.now.names.items
    c.loop-number.number c.index.result.now c.loop-number.tally c.in_ok-tally.tally (omega (arith, c.loop-number-test.true)) c.index.ensures
    c.loop-number.invariant
    (subst (λ (file : List ℕ). IsFileFixed c.args.style texts file c.loop-number.tally mid new c.in_ok-tally.tally) c.as_str-name.ensures.value
    c.in_ok-tally.ensures)
