use Rattle.{std.proofs.lemmas.Result.IfOk-weaker, rnix_parser.proofs.OneReading.read_parsed}
use Rattle.rnix_parser.proofs.parsing.parse.Goals as goal

pub returns : goal.returns
returns c = IfOk-weaker c.read_tokens.result _ _ (λ read w. read_parsed c.args.tokens read.0 _ w c.rest-text.ensures.named) c.read_tokens.ensures
