use Rattle.{std.proofs.Common.{rules, ap, map, ◌∙◌, sym, refl}, rnix_green.{specs.{Tree.{Item, items_of}, Walk.spot_at}, proofs.SiblingLemmas.next_sibling}}
use Rattle.{rnix_green.proofs.SiblingLemmas.no_sibling, rnix_tree.proofs.ListLemmas.cons_same}
use Rattle.rnix_tree.proofs.walk.SyntaxElementChildrenIterator.next.Goals as goal

pub returns-then-number-self-clause-steps : goal.returns-then-number-self-clause-steps
returns-then-number-self-clause-steps c =
    let s = c.self.inside in
    let t = s.green.now in
    sym c.self.view_is
    ∙ ap (map (spot_at t)) (next_sibling (items_of t) s.next s.end c.element-element.result.below c.if-number-self.true c.self.invariant
    (ap (λ (i : Item). i.below) c.element-element.ensures.is))
    ∙ cons_same (sym c.element_at.ensures.spot) refl

pub returns-then-number-self-clause-goes : goal.returns-then-number-self-clause-goes
returns-then-number-self-clause-goes c = rw (returns-then-number-self-clause-steps c) (search rules)

pub returns-else-number-self-clause-steps : goal.returns-else-number-self-clause-steps
returns-else-number-self-clause-steps c =
    let s = c.self.inside in
    let t = s.green.now in
    let none = ap (map (spot_at t)) (no_sibling (items_of t) s.next s.end c.if-number-self.false) in
    rw (← c.self.view_is) (none, none)
