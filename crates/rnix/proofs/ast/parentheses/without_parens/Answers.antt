use Rattle.std.proofs.Common.{rules, ◌≡◌, ◌∙◌, sym, ap, arith}
use Rattle.rnix.proofs.ParenthesesLemmas.{inside_next, inside_none, inside_zero}
use Rattle.rnix.proofs.ast.parentheses.without_parens.Goals as goal

pub loop-count-preserved : goal.loop-count-preserved
loop-count-preserved c =
    c.loop-count.invariant
    ∙ inside_next c.loop-count.count c.loop-count.inner c.in-Some.next (omega (arith, c.loop-count-test.true)) (sym c.inside_of.ensures ∙ c.in-Some.is)

pub returns-in-None : goal.returns-in-None
returns-in-None c =
    sym (c.loop-count.invariant ∙ inside_none c.loop-count.count c.loop-count.inner (sym c.inside_of.ensures ∙ c.in-None.is))

pub returns : goal.returns
returns c =
    sym (c.loop-count.invariant ∙ inside_zero c.loop-count.count c.loop-count.inner (omega (arith, c.loop-count-test.false)))
