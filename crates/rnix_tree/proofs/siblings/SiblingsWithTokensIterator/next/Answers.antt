use Rattle.{std.proofs.Common.{rules, subst, ap, sym, ◌∙◌, ◌∷◌}, rnix_tree.specs.{Around.IsThereIfAny, Siblings.siblings_if}}
use Rattle.rnix_tree.proofs.DirectionLemmas.{sibling_step}
use Rattle.rnix_tree.proofs.siblings.SiblingsWithTokensIterator.next.Goals as goal

pub returns-clause-steps : goal.returns-clause-steps
returns-clause-steps c =
    let s = c.self.inside in
    let t = s.green.now in
    let there = subst (IsThereIfAny t) c.in-Some.is c.self.invariant in
    sym c.self.view_is ∙ ap (siblings_if s.direction t) c.in-Some.is
    ∙ sibling_step t c.in-Some.number there s.direction c.sibling-self-inside.result c.sibling-self-inside.ensures.beside
    ∙ ap (λ x. x ∷ siblings_if s.direction t c.sibling-self-inside.result) (sym c.element_at.ensures.spot)

pub returns-clause-goes : goal.returns-clause-goes
returns-clause-goes c = rw (returns-clause-steps c) (search rules)
