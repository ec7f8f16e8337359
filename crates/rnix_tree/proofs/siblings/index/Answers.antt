use Rattle.{std.proofs.Common.{◌≡◌, ◌∙◌, ap, sym, arith}, rnix_green.{specs.Tree.{Item, item}, proofs.ParentLemmas.parent_is_before}}
use Rattle.rnix_tree.proofs.IndexLemmas.{counted_first, counted_step, none_counted}
use Rattle.rnix_tree.proofs.siblings.index.Goals as goal

pub returns-in_default : goal.returns-in_default
returns-in_default c =
    none_counted c.args.green.now c.args.number c.requires (sym (ap (λ (i : Item). i.parent) c.element.ensures.is) ∙ c.in_default.is)

pub overflow_add-sibling : goal.overflow_add-sibling
overflow_add-sibling c =
    let parent = sym (ap (λ (i : Item). i.parent) c.element.ensures.is) ∙ c.in-Some.is in
    omega (arith, parent_is_before c.args.green.now c.args.number c.in-Some.parent c.requires parent, c.ranges.number.fits)

pub loop-sibling-init : goal.loop-sibling-init
loop-sibling-init c =
    counted_first c.args.green.now c.args.number c.in-Some.parent c.requires (sym (ap (λ (i : Item). i.parent) c.element.ensures.is) ∙ c.in-Some.is)

pub loop-sibling-preserved : goal.loop-sibling-preserved
loop-sibling-preserved c =
    let t = c.args.green.now in
    let parent = sym (ap (λ (i : Item). i.parent) c.element.ensures.is) ∙ c.in-Some.is in
    let below : c.element-element.result.below ≡ (item t c.loop-sibling.sibling).below = ap (λ (i : Item). i.below) c.element-element.ensures.is in
    rw below (counted_step t c.args.number c.in-Some.parent c.requires parent c.loop-sibling.sibling c.loop-sibling.index c.loop-sibling.invariant
    c.loop-sibling-test.true)
