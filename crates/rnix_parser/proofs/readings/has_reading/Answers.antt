use Rattle.{rnix_kinds.specs.Lexical.Tokens.tokens_of, rnix_parser.proofs.OneReading.has_reading}
use Rattle.rnix_parser.proofs.readings.has_reading.Goals as goal

pub returns : goal.returns
returns c = has_reading (tokens_of c.args.text.now)
