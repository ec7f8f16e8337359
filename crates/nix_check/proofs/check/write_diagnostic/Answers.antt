use Rattle.std.proofs.lemmas.Result.{on_ok_weaker}
use Rattle.nix_check.proofs.PrintedDiagnostics.{as_text, as_json, as_sarif}
use Rattle.nix_check.proofs.check.write_diagnostic.Goals as goal

pub returns-in-Text : goal.returns-in-Text
returns-in-Text g c =
    let source = c.args.source.now in
    on_ok_weaker c.write_text.result
    (λ e. as_text c.args.style source.name.now source.text.now c.args.is_first c.args.diagnostic.now (g.W.Write.contents c.args.out.now)
    (g.W.Write.contents c.write_text.new.out) c.in-Text.is e) c.write_text.ensures

pub returns-in-Json : goal.returns-in-Json
returns-in-Json g c =
    let source = c.args.source.now in
    on_ok_weaker c.write_json.result
    (λ e. as_json c.args.style source.name.now source.text.now c.args.is_first c.args.diagnostic.now (g.W.Write.contents c.args.out.now)
    (g.W.Write.contents c.write_json.new.out) c.in-Json.is e) c.write_json.ensures

pub returns-in-Sarif : goal.returns-in-Sarif
returns-in-Sarif g c =
    let source = c.args.source.now in
    on_ok_weaker c.write_separated.result
    (λ e. as_sarif c.args.style source.name.now source.text.now c.args.is_first c.args.diagnostic.now (g.W.Write.contents c.args.out.now)
    (g.W.Write.contents c.write_separated.new.out) c.in-Sarif.is e) c.write_separated.ensures
