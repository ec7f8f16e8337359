use Rattle.{std.proofs.Common.[], rnix_kinds.{proofs.LexicalLemmas.Laws.AreSound-tokens_under, specs.Lexical.Tokens.tokens_of}}
use Rattle.{rnix_proof_size.proofs.SizedReadings.{sized, sized_by_tokens}, rnix_parser.proofs.SizedTexts.sized_by_bytes}
use Rattle.rnix_parser.proofs.readings.size.Goals as goal

pub returns : goal.returns
returns c = record {
  items = λ tree faults r. sized (tokens_of c.args.text.now) tree faults r;
  tokens = λ tree faults r. sized_by_tokens (tokens_of c.args.text.now) tree faults r;
  bytes = λ tree faults r. sized_by_bytes c.args.text.now tree faults (AreSound-tokens_under [] c.args.text.now c.utf8.text) r;
}
