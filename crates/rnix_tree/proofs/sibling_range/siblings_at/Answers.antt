use Rattle.std.proofs.Common.{ap, sym, arith}
use Rattle.rnix_green.specs.Tree.{Item}
use Rattle.rnix_tree.proofs.{SiblingWalks.holder_before}
use Rattle.rnix_tree.proofs.sibling_range.siblings_at.Goals as goal

pub overflow_add-end : goal.overflow_add-end
overflow_add-end c =
    let parent = sym (ap (λ (i : Item). i.parent) c.element.ensures.is) in
    let before = holder_before c.args.green.now c.args.root c.args.number c.element.result.parent c.requires.there parent in
    omega (arith, before, c.holder_of-holder.ensures, c.element.ensures.next_fits)

pub element-requires-2 : goal.element-requires-2
element-requires-2 c =
    let parent = sym (ap (λ (i : Item). i.parent) c.element.ensures.is) in
    let before = holder_before c.args.green.now c.args.root c.args.number c.element.result.parent c.requires.there parent in
    omega (arith, before, c.holder_of-holder.ensures, c.requires.there)
