use Rattle.{std.proofs.Common.{◌≡◌, ◌<◌, ◌+◌, ◌∙◌, Some, length, sym, ap, subst, arith}, rnix_green.specs.{Tree.{Item, items_of, item}, Relatives.IsFirst}}
use Rattle.{rnix_green.{specs.Relatives.IsSibling, proofs.InsideLemmas.below_parent}, rnix_tree.proofs.RelativeLemmas.{no_next_of_root, next_there, no_next}}
use Rattle.rnix_tree.proofs.relatives.next_sibling.Goals as goal

pub returns-in_default : goal.returns-in_default
returns-in_default c =
    no_next_of_root c.args.green.now c.args.number c.requires (sym (ap (λ (i : Item). i.parent) c.element-element.ensures.is) ∙ c.in_default.is)

pub element-requires : goal.element-requires
element-requires c =
    let parent : (item c.args.green.now c.args.number).parent ≡ Some c.in-Some.parent =
    sym (ap (λ (i : Item). i.parent) c.element-element.ensures.is) ∙ c.in-Some.is in
    let below = below_parent c.args.green.now c.args.number c.in-Some.parent c.requires parent in
    let there : c.in-Some.parent < length (items_of c.args.green.now) = omega (arith, below.low, c.requires) in
    there

pub returns-then-next-parent : goal.returns-then-next-parent
returns-then-next-parent c =
    let t = c.args.green.now in
    let n = c.args.number in
    let parent : (item t n).parent ≡ Some c.in-Some.parent = sym (ap (λ (i : Item). i.parent) c.element-element.ensures.is) ∙ c.in-Some.is in
    let same : c.element-element.result.below ≡ (item t n).below = ap (λ (i : Item). i.below) c.element-element.ensures.is in
    let above : c.element.result.below ≡ (item t c.in-Some.parent).below = ap (λ (i : Item). i.below) c.element.ensures.is in
    subst (λ b. IsFirst (IsSibling record { tree = t; number = n }) n (Some (n + 1 + b))) (sym same)
    (next_there t n c.requires c.in-Some.parent parent (omega (arith, same, above, c.if-next-parent.true)))

pub returns-else-next-parent : goal.returns-else-next-parent
returns-else-next-parent c =
    let t = c.args.green.now in
    let n = c.args.number in
    let parent : (item t n).parent ≡ Some c.in-Some.parent = sym (ap (λ (i : Item). i.parent) c.element-element.ensures.is) ∙ c.in-Some.is in
    let same : c.element-element.result.below ≡ (item t n).below = ap (λ (i : Item). i.below) c.element-element.ensures.is in
    let above : c.element.result.below ≡ (item t c.in-Some.parent).below = ap (λ (i : Item). i.below) c.element.ensures.is in
    no_next t n c.requires c.in-Some.parent parent (omega (arith, same, above, c.if-next-parent.false))
