use Rattle.std.proofs.{Common.{inl, rules}, lemmas.Result.IfOk-weaker}
use Rattle.nix_check.{specs.ErrorReport.{IsTextCounted, IsFileCounted}, proofs.CheckedFiles.file_checked}
use Rattle.nix_check.proofs.report.check_file.Goals as goal

pub returns-in-Some : goal.returns-in-Some
returns-in-Some g c =
    let start = g.W.Write.contents c.args.out.now in
    let mid = g.W.Write.contents c.read_text.new.out in
    let new = g.W.Write.contents c.count_text.new.out in
    let shown = c.display_name.result.now in
    let text = c.as_str.result.now in
    let texts = g.R.TextReader.texts c.args.reader.now in
    IfOk-weaker c.count_text.result (IsTextCounted c.args.style shown text c.args.tally mid new)
    (IsFileCounted c.args.style texts c.args.name.now c.args.tally start new)
    (λ tally own. file_checked c.args.style texts c.args.name.now shown text c.args.tally tally start mid new (search rules) c.read_text.ensures.kept
    c.display_name.ensures own)
    c.count_text.ensures

pub returns-in-None : goal.returns-in-None
returns-in-None g c = inl (search rules, c.read_text.ensures.kept, c.with_unread.ensures)
