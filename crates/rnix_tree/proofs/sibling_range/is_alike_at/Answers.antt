use Rattle.std.proofs.Common.{ap, arith}
use Rattle.rnix_green.specs.Tree.{Item}
use Rattle.rnix_tree.proofs.SiblingsAlike.{starts_after}
use Rattle.rnix_tree.proofs.sibling_range.is_alike_at.Goals as goal

pub overflow_sub-result : goal.overflow_sub-result
overflow_sub-result c =
    omega (
      arith,
      c.requires.start,
      ap (λ (i : Item). i.start) c.element-element.ensures.is,
      starts_after c.args.green.now c.args.from.number c.args.index c.requires.there,
    )

pub overflow_sub-result-then-is_same_item : goal.overflow_sub-result-then-is_same_item
overflow_sub-result-then-is_same_item c =
    omega (
      arith,
      c.requires.other_start,
      ap (λ (i : Item). i.start) c.element-twin.ensures.is,
      starts_after c.args.other_green.now c.args.other.number c.args.index c.requires.other_there,
    )
