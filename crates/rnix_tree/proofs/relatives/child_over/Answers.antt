use Rattle.{std.proofs.Common.{◌<◌, ◌∙◌, length, sym, ap, arith}, rnix_green.{specs.Tree.{Item, items_of}, proofs.SiblingLemmas.next_inside}}
use Rattle.{rnix_green.proofs.ParentLemmas.parent_is_before, rnix_tree.proofs.RelativeLemmas.{climb_step, climb_goes}}
use Rattle.rnix_tree.proofs.relatives.child_over.Goals as goal

pub element-requires : goal.element-requires
element-requires c =
    let there : c.loop-above.child < length (items_of c.args.green.now) =
    omega (arith, c.loop-above.invariant.low, c.requires.high, next_inside c.args.green.now c.args.parent c.requires.there) in
    there

pub loop-above-smaller : goal.loop-above-smaller
loop-above-smaller c =
    let there : c.loop-above.child < length (items_of c.args.green.now) =
    omega (arith, c.loop-above.invariant.low, c.requires.high, next_inside c.args.green.now c.args.parent c.requires.there) in
    parent_is_before c.args.green.now c.loop-above.child c.in-Some.above there (sym (ap (λ (i : Item). i.parent) c.element.ensures.is) ∙ c.in-Some.is)

pub loop-above-preserved : goal.loop-above-preserved
loop-above-preserved c =
    climb_step c.args.green.now c.args.parent c.args.number c.loop-above.child c.in-Some.above c.requires.there c.requires.high c.loop-above.invariant
    (sym (ap (λ (i : Item). i.parent) c.element.ensures.is) ∙ c.in-Some.is) c.if-above-parent.false

pub returns : goal.returns
returns c =
    absurd (climb_goes c.args.green.now c.args.parent c.args.number c.loop-above.child c.requires.there c.requires.high c.loop-above.invariant
    (sym (ap (λ (i : Item). i.parent) c.element.ensures.is) ∙ c.in_default.is))
