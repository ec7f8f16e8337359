use Rattle.{std.proofs.Common.{rules, subst, ap, sym, ◌∙◌, ◌∷◌}, rnix_green.specs.Tree.Item, rnix_tree.specs.Around.{ancestors_if, IsNodeIfAny}}
use Rattle.rnix_tree.proofs.{RelativeLemmas.parent_if_any, AncestorLemmas.ancestors_step}
use Rattle.rnix_tree.proofs.ancestors.AncestorsIterator.next.Goals as goal

pub invariant_of-self : goal.invariant_of-self
invariant_of-self c =
    let t = c.self.inside.green.now in
    let here = subst (IsNodeIfAny t) c.in-Some.is c.self.invariant in
    parent_if_any t c.in-Some.number c.element.result.parent here.is_there (sym (ap (λ (i : Item). i.parent) c.element.ensures.is))

pub returns-clause-steps : goal.returns-clause-steps
returns-clause-steps c =
    let t = c.self.inside.green.now in
    let here = subst (IsNodeIfAny t) c.in-Some.is c.self.invariant in
    sym c.self.view_is ∙ ap (ancestors_if t) c.in-Some.is ∙ ancestors_step t c.in-Some.number here.is_there
    ∙ ap (λ (i : Item). record { tree = t; number = c.in-Some.number } ∷ ancestors_if t i.parent) (sym c.element.ensures.is)

pub returns-clause-goes : goal.returns-clause-goes
returns-clause-goes c = rw (returns-clause-steps c) (search rules)
