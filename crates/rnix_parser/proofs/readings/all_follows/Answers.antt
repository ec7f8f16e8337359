use Rattle.{std.proofs.Common.[], rnix_kinds.{proofs.LexicalLemmas.Laws.AreSound-tokens_under, specs.Lexical.Tokens.tokens_of}}
use Rattle.rnix_parser.proofs.ParsedLemmas.{all_follows}
use Rattle.rnix_parser.proofs.readings.all_follows.Goals as goal

pub returns : goal.returns
returns c = λ tree faults. all_follows (tokens_of c.args.text.now) tree faults (AreSound-tokens_under [] c.args.text.now c.utf8.text).named
