use Rattle.{std.proofs.Common.{ap, sym, ◌∙◌, add-one, arith}, rnix_grammar.specs.Layout.{from_item, tail_of}, rnix_reader.specs.Placed.tokens_cut}
use Rattle.rnix_reader.proofs.CursorLemmas.{behind_all, tail-drop}
use Rattle.rnix_reader.proofs.cursor.behind_item.Goals as goal

pub returns-then-at-tokens : goal.returns-then-at-tokens
returns-then-at-tokens c text = ap from_item (tail-drop c.args.at (tokens_cut text 0 c.args.tokens.now)) ∙ (rw (add-one) at (c.item_from.ensures text))

pub returns : goal.returns
returns c text =
    let none = behind_all text c.args.tokens.now c.args.at (omega (arith, c.if-at-tokens.false)) in
    ap (λ x. from_item (tail_of x)) none ∙ sym none
