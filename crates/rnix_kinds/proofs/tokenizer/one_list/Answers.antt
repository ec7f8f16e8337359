use Rattle.{std.proofs.Common.[], rnix_kinds.{specs.Lexical.Tokens.tokens_of, proofs.LexicalLemmas.Laws.{AreTokens-tokens_under, AreTokens-unique}}}
use Rattle.rnix_kinds.proofs.LexicalLemmas.Laws.{AreSound-tokens_under}
use Rattle.rnix_kinds.proofs.tokenizer.one_list.Goals as goal

pub returns : goal.returns
returns c = record {
  are = AreTokens-tokens_under [] c.args.text.now c.utf8.text;
  only = λ tokens are. AreTokens-unique [] c.args.text.now tokens (tokens_of c.args.text.now) are (AreTokens-tokens_under [] c.args.text.now c.utf8.text);
  whole = AreSound-tokens_under [] c.args.text.now c.utf8.text;
}
