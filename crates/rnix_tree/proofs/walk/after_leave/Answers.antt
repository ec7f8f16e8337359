use Rattle.{std.proofs.Common.{◌≡◌, ◌<◌, arith, ap, sym, ◌∙◌, Some}, rnix_green.{specs.Tree.{Item, item}, proofs.ParentLemmas.parent_is_node}}
use Rattle.rnix_green.proofs.ParentLemmas.{parent_is_before}
use Rattle.rnix_tree.proofs.walk.after_leave.Goals as goal

pub overflow_add-parent : goal.overflow_add-parent
overflow_add-parent c =
    let parent : (item c.args.green.now c.args.number).parent ≡ Some c.in-Some.parent =
    sym (ap (λ (i : Item). i.parent) c.element-element.ensures.is) ∙ c.in-Some.is in
    let low : c.in-Some.parent < c.args.number = parent_is_before c.args.green.now c.args.number c.in-Some.parent c.requires parent in
    omega (arith, c.element-element.ensures.next_fits)

pub element-requires : goal.element-requires
element-requires c =
    let parent : (item c.args.green.now c.args.number).parent ≡ Some c.in-Some.parent =
    sym (ap (λ (i : Item). i.parent) c.element-element.ensures.is) ∙ c.in-Some.is in
    (parent_is_node c.args.green.now c.args.number c.in-Some.parent c.requires parent).is_there
