use Rattle.std.proofs.{Common.{ℕ, List, subst, rules}, lemmas.Result.IfOk-weaker}
use Rattle.nix_dead.specs.Report.{IsReported, IsFileReported}
use Rattle.nix_dead.proofs.ReportedNames.{file_reported}
use Rattle.nix_dead.proofs.report.report_file.Goals as goal

pub returns-in-Some : goal.returns-in-Some
returns-in-Some g c =
    let start = g.W.Write.contents c.args.out.now in
    let mid = g.W.Write.contents c.read_text.new.out in
    let new = g.W.Write.contents c.report.new.out in
    let text = c.as_str.result.now in
    IfOk-weaker c.report.result (IsReported c.args.options c.display_name.result.now text mid new)
    (IsFileReported c.args.options (g.R.TextReader.texts c.args.reader.now) c.args.file.now start new)
    (λ status own. file_reported c.args.options (g.R.TextReader.texts c.args.reader.now) c.args.file.now text start mid new status (search rules)
    c.read_text.ensures.kept
    (subst (λ (file : List ℕ). IsReported c.args.options file text mid new status) c.display_name.ensures own))
    c.report.ensures
