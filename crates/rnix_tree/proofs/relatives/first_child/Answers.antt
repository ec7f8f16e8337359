use Rattle.{std.proofs.Common.{ap, arith}, rnix_green.specs.Tree.Item, rnix_tree.proofs.RelativeLemmas.{first_there, no_first}}
use Rattle.rnix_tree.proofs.relatives.first_child.Goals as goal

pub returns-then-element-gt0 : goal.returns-then-element-gt0
returns-then-element-gt0 c =
    first_there c.args.green.now c.args.number c.requires (omega (arith, c.if-element-gt0.true, ap (λ (i : Item). i.below) c.element.ensures.is))

pub returns-else-element-gt0 : goal.returns-else-element-gt0
returns-else-element-gt0 c =
    no_first c.args.green.now c.args.number c.requires (omega (arith, c.if-element-gt0.false, ap (λ (i : Item). i.below) c.element.ensures.is))
