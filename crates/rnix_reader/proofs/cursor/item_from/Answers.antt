use Rattle.{std.proofs.Common.{ap, sym, ◌∙◌, add-one, arith}, rnix_grammar.specs.Layout.from_item, rnix_reader.proofs.CursorLemmas.{at_offset, at_item}}
use Rattle.rnix_reader.proofs.CursorLemmas.{behind_all, from_trivia}
use Rattle.rnix_reader.proofs.cursor.item_from.Goals as goal

pub returns-then-not-is_trivia : goal.returns-then-not-is_trivia
returns-then-not-is_trivia c text =
    sym (c.loop-at.invariant text)
    ∙ at_item _ _ _ (at_offset text 0 c.args.tokens.now c.loop-at.at _ c.loop-at-test.true) (sym c.is_trivia.ensures ∙ c.if-not-is_trivia.true)

pub loop-at-preserved : goal.loop-at-preserved
loop-at-preserved c text =
    rw (add-one)
    (sym (from_trivia _ _ _ (at_offset text 0 c.args.tokens.now c.loop-at.at _ c.loop-at-test.true) (sym c.is_trivia.ensures ∙ c.if-not-is_trivia.false))
    ∙ c.loop-at.invariant text)

pub returns : goal.returns
returns c text =
    let none = behind_all text c.args.tokens.now c.loop-at.at (omega (arith, c.loop-at-test.false)) in
    sym (c.loop-at.invariant text) ∙ ap from_item none ∙ sym none
