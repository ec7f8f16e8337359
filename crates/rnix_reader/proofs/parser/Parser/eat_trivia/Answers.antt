use Rattle.{std.proofs.Common.{sym, ap, ◌∙◌, refl}, rnix_reader.{specs.{Placed.token_of, State.state}, proofs.StateLemmas.{eaten-settled, eaten-trivia}}}
use Rattle.rnix_reader.proofs.TextRemaining.{next_text}
use Rattle.rnix_reader.proofs.parser.Parser.eat_trivia.Goals as goal

pub token-requires : goal.token-requires
token-requires c = next_text _ _ (token_of c.in-Some.token) c.loop-token.self.remaining c.in-Some.ensures.0

pub loop-token-preserved : goal.loop-token-preserved
loop-token-preserved c = (
  eaten-trivia (state c.loop-token.self) _ (token_of c.in-Some.token) _ c.in-Some.ensures.0 c.in-Some.ensures.1
      c.advance.ensures (ap (λ x. x.draft.finished) c.in_ok-token.ensures.ok) (ap (λ x. x.draft.open_nodes) c.in_ok-token.ensures.ok) refl refl refl
      ∙ c.loop-token.invariant.0,
  ap (λ x. x.draft.open_nodes) c.in_ok-token.ensures.ok ∙ c.loop-token.invariant.1,
)

pub returns-clause-state : goal.returns-clause-state
returns-clause-state c = sym (eaten-settled (state c.loop-token.self) c.in_default.ensures) ∙ c.loop-token.invariant.0
