use Rattle.rnix_kinds.proofs.LexicalLemmas.Laws.{AreSound-tokens_under}
use Rattle.rnix_kinds.proofs.tokenizer.joined.Goals as goal

pub returns : goal.returns
returns c = AreSound-tokens_under c.args.modes.now c.args.text.now c.utf8.text
