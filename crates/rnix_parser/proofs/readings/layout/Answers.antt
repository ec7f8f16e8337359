use Rattle.{std.proofs.Common.[], rnix_kinds.proofs.LexicalLemmas.Laws.AreSound-tokens_under, rnix_parser.proofs.AlikeTexts.alike_texts}
use Rattle.rnix_parser.proofs.readings.layout.Goals as goal

pub returns : goal.returns
returns c =
    alike_texts c.args.first.now c.args.second.now (AreSound-tokens_under [] c.args.first.now c.utf8.first).named
    (AreSound-tokens_under [] c.args.second.now c.utf8.second).named
