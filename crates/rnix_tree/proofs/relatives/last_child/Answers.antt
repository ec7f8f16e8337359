use Rattle.{std.proofs.Common.{◌≡◌, ◌+◌, ap, subst, arith}, rnix_green.specs.Tree.{Item, item}, rnix_tree.specs.Around.IsOnWayTo}
use Rattle.rnix_tree.proofs.RelativeLemmas.{last_there, no_last}
use Rattle.rnix_tree.proofs.relatives.last_child.Goals as goal

pub returns-then-below-gt0 : goal.returns-then-below-gt0
returns-then-below-gt0 c =
    let same : c.args.number + c.element-below.result.below ≡ c.args.number + (item c.args.green.now c.args.number).below =
    ap (λ (i : Item). c.args.number + i.below) c.element-below.ensures.is in
    last_there c.args.green.now c.args.number c.requires c.child_over.result
    (subst (λ n. IsOnWayTo c.args.green.now c.args.number n c.child_over.result) same c.child_over.ensures)

pub returns-else-below-gt0 : goal.returns-else-below-gt0
returns-else-below-gt0 c =
    no_last c.args.green.now c.args.number c.requires (omega (arith, c.if-below-gt0.false, ap (λ (i : Item). i.below) c.element-below.ensures.is))
