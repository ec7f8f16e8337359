use Rattle.std.proofs.Common.{◌≡◌, ◌+◌, ap, arith, subst}
use Rattle.rnix_green.specs.Tree.{Item, item}
use Rattle.rnix_tree.specs.AlikeSiblings.{IsReached, from_first, over_one}
use Rattle.rnix_tree.proofs.sibling_range.end_before.Goals as goal

pub loop-number-init : goal.loop-number-init
loop-number-init c = from_first

pub loop-number-preserved : goal.loop-number-preserved
loop-number-preserved c =
    let t = c.args.green.now in
    let n = c.loop-number.number in
    let is = c.element-element.ensures.is in
    let next : n + 1 + (item t n).below ≡ n + (1 + c.element-element.result.below) = omega (arith, ap (λ (i : Item). i.below) is) in
    subst (IsReached t c.args.siblings.end c.args.offset c.args.siblings.first) next
    (over_one n c.loop-number.invariant c.loop-number-test.true (omega (arith, c.if-element-offset.false, ap (λ (i : Item). i.end) is)))
