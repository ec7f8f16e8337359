use Rattle.{std.proofs.Common.{length, ap, arith, ◌≡◌, ◌<◌, ◌^◌, suc, sym, subst, ◌∙◌}, rnix_green.specs.Tree.{Item, Located, item, part_at}}
use Rattle.{rnix_green.{specs.Forest.element_count, proofs.PartLemmas.{below_of_part, part_there, one_there}}, rnix_tree.proofs.CountLemmas.preorder_of-twice}
use Rattle.rnix_tree.proofs.node.SyntaxNode.preorder_with_tokens.Goals as goal

pub returns-clause-count : goal.returns-clause-count
returns-clause-count c =
    let t = c.self.inside.green.now in
    let n = c.self.inside.number in
    let there = c.self.invariant.is_there in
    let below : (item t n).below ≡ c.element-element.result.below = ap (λ (i : Item). i.below) (sym c.element-element.ensures.is) in
    let count : element_count (part_at record { tree = t; number = n }) ≡ suc (item t n).below =
    below_of_part t n _ (part_there t n there) (one_there t n there) in
    let fits : suc c.element-element.result.below < 2 ^ 64 = omega arith in
    subst (λ (e : Located). element_count (part_at e) < 2 ^ 64) c.self.view_is (subst (λ x. x < 2 ^ 64) (sym (count ∙ ap suc below)) fits)

pub returns-clause-fits : goal.returns-clause-fits
returns-clause-fits c =
    let s = c.self.inside in
    omega (
      arith,
      ap length c.new.ensures,
      preorder_of-twice s.green.now s.number c.self.invariant.is_there,
      c.element-element.ensures.next_fits,
      ap (λ (i : Item). i.below) c.element-element.ensures.is,
    )
