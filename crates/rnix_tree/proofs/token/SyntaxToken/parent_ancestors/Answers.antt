use Rattle.{std.proofs.Common.{length, ap, sym, arith}, rnix_green.specs.Tree.Item, rnix_tree.{specs.Around.ancestors_if, proofs.RelativeLemmas.parent_if_any}}
use Rattle.rnix_tree.proofs.{AncestorLemmas.ancestors_step, CountLemmas.ancestors_of-few}
use Rattle.rnix_tree.proofs.token.SyntaxToken.parent_ancestors.Goals as goal

pub invariant_of-result : goal.invariant_of-result
invariant_of-result c =
    let s = c.self.inside in
    parent_if_any s.green.now s.number c.element.result.parent c.self.invariant.is_there (sym (ap (λ (i : Item). i.parent) c.element.ensures.is))

pub returns-clause-fits : goal.returns-clause-fits
returns-clause-fits c =
    let s = c.self.inside in
    let t = s.green.now in
    omega (
      arith,
      ap (λ (i : Item). length (ancestors_if t i.parent)) c.element.ensures.is,
      ap length (ancestors_step t s.number c.self.invariant.is_there),
      ancestors_of-few record { tree = t; number = s.number },
      c.element.ensures.next_fits,
    )
