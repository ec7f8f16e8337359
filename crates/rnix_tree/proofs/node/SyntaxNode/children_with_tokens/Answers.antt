use Rattle.{std.proofs.Common.{ap, sym, arith, length, map, ◌+◌, ◌∙◌}, rnix_green.specs.{Tree.{Item, Located, items_of}, Walk.{spot_at, children_of}}}
use Rattle.{rnix_green.{specs.PreorderNumbers.siblings_between, proofs.PartLemmas.children_between}, rnix_tree.proofs.CountLemmas.children_of-few}
use Rattle.rnix_tree.proofs.node.SyntaxNode.children_with_tokens.Goals as goal

pub returns-clause-children : goal.returns-clause-children
returns-clause-children c =
    let s = c.self.inside in
    let t = s.green.now in
    ap (map (spot_at t))
    (ap (λ (i : Item). siblings_between (items_of t) (s.number + 1) (s.number + 1 + i.below)) c.element-element.ensures.is
    ∙ children_between t s.number c.self.invariant.is_there)
    ∙ ap (λ (e : Located). children_of e) c.self.view_is

pub returns-clause-fits : goal.returns-clause-fits
returns-clause-fits c =
    let s = c.self.inside in
    let same = ap length (returns-clause-children c) ∙ ap (λ (e : Located). length (children_of e)) (sym c.self.view_is) in
    omega (
      arith,
      same,
      children_of-few s.green.now s.number c.self.invariant.is_there,
      c.element-element.ensures.next_fits,
      ap (λ (i : Item). i.below) c.element-element.ensures.is,
    )
