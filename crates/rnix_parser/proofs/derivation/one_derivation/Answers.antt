use Rattle.{rnix_grammar.specs.{AnnotatedForest.placed_from, Layout.items}, rnix_kinds.specs.Lexical.Tokens.tokens_of}
use Rattle.rnix_parser.proofs.Found.{derivation_alone}
use Rattle.rnix_parser.proofs.derivation.one_derivation.Goals as goal

pub returns : goal.returns
returns c = λ t u d e. derivation_alone t u (items (placed_from 0 (tokens_of c.args.text.now))) d e
