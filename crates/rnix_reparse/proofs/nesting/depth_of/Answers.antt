use Rattle.std.proofs.Common.{suc, ◌+◌, ◌<◌, sym, ap, subst}
use Rattle.rnix_green.specs.Tree.{Item}
use Rattle.rnix_reparse.proofs.Climbing.{IsClimbed, left_above, climb_begins, climb_goes_on, climb_shorter, climb_ends}
use Rattle.rnix_reparse.proofs.nesting.depth_of.Goals as goal

pub loop-above-init : goal.loop-above-init
loop-above-init c =
    subst (IsClimbed c.args.green.now c.args.number 0) (sym (ap (λ (i : Item). i.parent) c.element-above.ensures.is))
    (climb_begins c.args.green.now c.args.number c.requires)

pub loop-above-smaller : goal.loop-above-smaller
loop-above-smaller c =
    let t = c.args.green.now in
    let m = c.in-Some.parent in
    let h = subst (IsClimbed t c.args.number c.loop-above.depth) c.in-Some.is c.loop-above.invariant in
    subst (λ o. left_above c.element-above-in-Some.result.parent < left_above o) (sym c.in-Some.is)
    (subst (λ p. left_above p < suc m) (sym (ap (λ (i : Item). i.parent) c.element-above-in-Some.ensures.is)) (climb_shorter t m h.reached))

pub loop-above-preserved : goal.loop-above-preserved
loop-above-preserved c =
    let t = c.args.green.now in
    let m = c.in-Some.parent in
    let h = subst (IsClimbed t c.args.number c.loop-above.depth) c.in-Some.is c.loop-above.invariant in
    subst (IsClimbed t c.args.number (c.loop-above.depth + 1)) (sym (ap (λ (i : Item). i.parent) c.element-above-in-Some.ensures.is))
    (climb_goes_on t c.args.number c.loop-above.depth m h)

pub returns : goal.returns
returns c =
    climb_ends c.args.green.now c.args.number c.loop-above.depth
    (subst (IsClimbed c.args.green.now c.args.number c.loop-above.depth) c.in_default.is c.loop-above.invariant)
