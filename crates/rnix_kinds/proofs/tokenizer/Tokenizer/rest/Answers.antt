use Rattle.{std.proofs.Common.{subst, List}, rnix_kinds.specs.Lexical.Tokens.{Lexeme, AreSound}}
use Rattle.rnix_kinds.proofs.tokenizer.Tokenizer.rest.Goals as goal

pub returns : goal.returns
returns c = subst (λ (tokens : List Lexeme). AreSound c.self.inside.rest.now tokens) c.self.view_is c.joined.ensures
