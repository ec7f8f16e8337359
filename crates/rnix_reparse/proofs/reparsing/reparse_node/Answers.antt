use Rattle.std.proofs.Common.{suc, ◌<◌, length, sym, ap, subst}
use Rattle.std.specs.Prelude.{IfSome}
use Rattle.rnix_green.specs.Tree.{Item, items_of}
use Rattle.rnix_reparse.proofs.Climbing.{left_above, climb_shorter, parent_there}
use Rattle.rnix_reparse.proofs.reparsing.reparse_node.Goals as goal

pub loop-around-smaller : goal.loop-around-smaller
loop-around-smaller c =
    let t = c.args.green.now in
    let m = c.in-Some.number in
    let there : m < length (items_of t) = subst (λ o. IfSome o (λ n. n < length (items_of t))) c.in-Some.is c.loop-around.invariant in
    subst (λ o. left_above c.element-around.result.parent < left_above o) (sym c.in-Some.is)
    (subst (λ p. left_above p < suc m) (sym (ap (λ (i : Item). i.parent) c.element-around.ensures.is)) (climb_shorter t m there))

pub loop-around-preserved : goal.loop-around-preserved
loop-around-preserved c =
    let t = c.args.green.now in
    let m = c.in-Some.number in
    let there : m < length (items_of t) = subst (λ o. IfSome o (λ n. n < length (items_of t))) c.in-Some.is c.loop-around.invariant in
    subst (λ o. IfSome o (λ n. n < length (items_of t))) (sym (ap (λ (i : Item). i.parent) c.element-around.ensures.is)) (parent_there t m there)
