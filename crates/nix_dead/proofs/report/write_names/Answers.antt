use Rattle.std.{proofs.Common.subst, specs.Io.KnownBytes.Appends}
use Rattle.nix_lints.specs.declared.unused.UnusedName.{UnusedName}
use Rattle.nix_dead.{specs.Report.name_output, proofs.ReportedNames.lines_more}
use Rattle.nix_dead.proofs.report.write_names.Goals as goal

pub loop-name-preserved : goal.loop-name-preserved
loop-name-preserved g c =
    let f = name_output c.args.is_json c.args.source.now.name.now c.args.source.now.text.now in
    let mid = g.W.Write.contents c.loop-name.out in
    let new = g.W.Write.contents c.write_name.new.out in
    lines_more f c.args.names.now c.loop-name.name-index c.name-item.result (g.W.Write.contents c.args.out.now) mid new c.loop-name-test.true
    c.loop-name.invariant (subst (λ (name : UnusedName). Appends mid new (f name)) c.name-item.is c.in_ok-write_name.ensures)
