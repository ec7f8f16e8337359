use Rattle.{std.proofs.Common.[], rnix_kinds.proofs.LexicalLemmas.Laws.AreSound-tokens_under, rnix_parser.proofs.OneReading.one_text}
use Rattle.rnix_parser.proofs.readings.one_text.Goals as goal

pub returns : goal.returns
returns c = λ t ds es. one_text c.args.first.now c.args.second.now t ds es (AreSound-tokens_under [] c.args.first.now c.utf8.first)
    (AreSound-tokens_under [] c.args.second.now c.utf8.second)
