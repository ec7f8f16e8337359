use Rattle.std.proofs.{Common.rules, lemmas.Result.IfOk-weaker}
use Rattle.nix_format.specs.Outcomes.{IsTextFormatted, IsFileFormatted, unread, read}
use Rattle.nix_format.proofs.file.read_and_format.Goals as goal

pub returns-in-Some : goal.returns-in-Some
returns-in-Some g c =
    let name = c.args.name.now in
    let start = g.W.Write.contents c.args.out.now in
    let mid = g.W.Write.contents c.read_text.new.out in
    let new = g.W.Write.contents c.format_text.new.out in
    IfOk-weaker c.format_text.result (IsTextFormatted c.args.task name c.as_str.result.now mid new)
    (IsFileFormatted c.args.task (g.R.TextReader.texts c.args.reader.now) name start new)
    (λ outcome own. read c.as_str.result.now mid outcome (search rules) c.read_text.ensures.kept own) c.format_text.ensures

pub returns-in-None : goal.returns-in-None
returns-in-None g c = unread (search rules) c.read_text.ensures.kept
