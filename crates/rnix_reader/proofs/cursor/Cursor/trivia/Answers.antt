use Rattle.{std.proofs.Common.{◌≡◌, List, sym, subst, arith}, rnix_grammar.specs.{Layout.from_item, AnnotatedForest.Token}, rnix_reader.specs.Placed.tokens_cut}
use Rattle.rnix_reader.proofs.{CursorLemmas.at_next_item, StateLemmas.first_trivia}
use Rattle.rnix_reader.proofs.cursor.Cursor.trivia.Goals as goal

pub returns-then-self : goal.returns-then-self
returns-then-self c =
    let all : List Token = tokens_cut c.self.inside.text.now 0 c.self.inside.tokens.items in
    first_trivia all c.args.self.now c.self.inside.at c.self.inside.next c.token.result (sym c.self.view_is) c.self.invariant.item
    (omega (arith, c.if-self.true)) c.token.ensures

pub returns : goal.returns
returns c =
    let all : List Token = tokens_cut c.self.inside.text.now 0 c.self.inside.tokens.items in
    subst (λ (ts : List Token). from_item ts ≡ ts) c.self.view_is (at_next_item all c.self.inside.at c.self.inside.next c.self.invariant.item
    (omega (arith, c.if-self.false)))
