use Rattle.{std.proofs.Common.{◌<◌, ◌≡◌, ◌∙◌, length, sym, ap, arith}, rnix_green.{specs.Tree.{Item, items_of, item}, proofs.SiblingLemmas.next_inside}}
use Rattle.rnix_tree.proofs.CoveringLemmas.{flanked_first, flanked_step, flanked_child, flanked_goes}
use Rattle.rnix_tree.proofs.covering.child_towards.Goals as goal

pub loop-child-init : goal.loop-child-init
loop-child-init c = flanked_first c.args.green.now c.args.parent c.args.number c.requires.there c.requires.low c.requires.high

pub returns-then-number-next : goal.returns-then-number-next
returns-then-number-next c =
    let below = ap (λ (i : Item). i.below) c.element-element.ensures.is in
    flanked_child c.args.green.now c.args.parent c.args.number c.loop-child.child c.loop-child.above c.requires.there c.loop-child.invariant
    (omega (arith, c.if-number-next.true, below))

pub element-requires : goal.element-requires
element-requires c =
    let t = c.args.green.now in
    let climbing = c.loop-child.invariant.climbing in
    let there : c.loop-child.above < length (items_of t) =
    omega (arith, climbing.low, c.requires.high, next_inside t c.args.parent c.requires.there) in
    there

pub returns-in_default-2 : goal.returns-in_default-2
returns-in_default-2 c =
    absurd (flanked_goes c.args.green.now c.args.parent c.args.number c.loop-child.child c.loop-child.above c.requires.there c.requires.high
    c.loop-child.invariant (sym (ap (λ (i : Item). i.parent) c.element.ensures.is) ∙ c.in_default.is))

pub loop-child-preserved : goal.loop-child-preserved
loop-child-preserved c =
    let t = c.args.green.now in
    let below : c.element-element.result.below ≡ (item t c.loop-child.child).below = ap (λ (i : Item). i.below) c.element-element.ensures.is in
    rw below (flanked_step t c.args.parent c.args.number c.loop-child.child c.loop-child.above c.in-Some.around c.requires.there c.requires.high
    c.loop-child.invariant (omega (arith, c.if-number-next.false, below))
    (sym (ap (λ (i : Item). i.parent) c.element.ensures.is) ∙ c.in-Some.is) c.if-around-parent.true)
