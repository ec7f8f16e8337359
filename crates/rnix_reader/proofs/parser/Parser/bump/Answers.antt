use Rattle.{std.proofs.Common.{ap, refl, ◌∙◌}, rnix_green.specs.Draft.with_leaf, rnix_reader.specs.{Placed.token_of, State.state}}
use Rattle.rnix_reader.proofs.{StateLemmas.{first_there, none_there, bumped-item, bumped-end}, TextRemaining.next_text}
use Rattle.rnix_reader.proofs.parser.Parser.bump.Goals as goal

pub token-requires-in-Some : goal.token-requires-in-Some
token-requires-in-Some c = next_text _ _ (token_of c.in-Some.token) c.eat_trivia.new.self.remaining (first_there _ _ _ c.token.ensures c.in-Some.is)

pub returns-in_ok-token-clause-state : goal.returns-in_ok-token-clause-state
returns-in_ok-token-clause-state c =
    bumped-item c.args.parent (state c.args.self.now) (state c.eat_trivia.new.self) _ (token_of c.in-Some.token) c.in_ok-eat_trivia.ensures.state
    (first_there _ _ _ c.token.ensures c.in-Some.is)
    c.advance.ensures (ap (λ x. x.draft.finished) c.in_ok-token.ensures.ok
    ∙ ap (λ k. with_leaf k c.in-Some.token.text.now c.eat_trivia.new.self.builder.draft.finished) c.leaf_kind_as.ensures)
    (ap (λ x. x.draft.open_nodes) c.in_ok-token.ensures.ok) refl refl refl

pub returns-in_default-clause-state : goal.returns-in_default-clause-state
returns-in_default-clause-state c = bumped-end c.args.parent (state c.args.self.now) (state c.eat_trivia.new.self) c.in_ok-eat_trivia.ensures.state
    (none_there _ _ c.token.ensures c.in_default.is)
