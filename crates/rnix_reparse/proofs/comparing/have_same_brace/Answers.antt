use Rattle.std.proofs.Common.{refl, ap, sym, ◌∙◌}
use Rattle.rnix_kinds.specs.SyntaxKind.{is_trivia}
use Rattle.rnix_green.specs.Tree.{Item}
use Rattle.rnix_reparse.specs.OwnBrackets.{at_brace, past_trivia}
use Rattle.rnix_reparse.proofs.comparing.have_same_brace.Goals as goal

pub loop-old-preserved : goal.loop-old-preserved
loop-old-preserved c =
    let kind = ap (λ (i : Item). is_trivia i.kind) (sym c.element-kind.ensures.is) ∙ sym c.is_trivia.ensures ∙ c.if-not-is_trivia.false in
    λ more. c.loop-old.invariant (past_trivia _ _ (c.if-not-are_same_token.ensures refl) kind more)

pub returns-then-is_same_kind : goal.returns-then-is_same_kind
returns-then-is_same_kind c =
    let kind = ap (λ (i : Item). i.kind) (sym c.element-kind.ensures.is) ∙ c.if-is_same_kind.ensures refl in
    λ is. c.loop-old.invariant (at_brace _ _ (c.if-not-are_same_token.ensures refl) kind)
