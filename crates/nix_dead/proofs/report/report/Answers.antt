use Rattle.std.proofs.{Common.{◌≡◌, [], length, subst, rules}, lemmas.Result.IfOk-weaker}
use Rattle.rnix_green.specs.Tree.{Located}
use Rattle.nix_dead.specs.Report.{AreReported, IsReported}
use Rattle.nix_dead.proofs.ReportedNames.{no_faults, text_reported}
use Rattle.nix_dead.proofs.report.report.Goals as goal

pub returns : goal.returns
returns g c =
    let read = c.in_ok-read.read in
    let start = g.W.Write.contents c.args.out.now in
    let new = g.W.Write.contents c.report_names.new.out in
    let few : length c.errors.result.now ≡ 0 = search rules in
    let none : read.faults ≡ [] = no_faults c.errors.result.now read.faults few c.errors.ensures in
    IfOk-weaker c.report_names.result (AreReported c.args.options c.args.file.now c.args.text.now c.syntax.result start new)
    (IsReported c.args.options c.args.file.now c.args.text.now start new)
    (λ status own. text_reported c.args.options c.args.file.now c.args.text.now start new read.tree read.faults status c.in_ok-read.ensures none
    (subst (λ (root : Located). AreReported c.args.options c.args.file.now c.args.text.now root start new status) c.syntax.ensures own))
    c.report_names.ensures
