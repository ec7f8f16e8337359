use Rattle.std.proofs.{Common.{ap, arith}, lemmas.{Int.{ints}, List.{length-map}}}
use Rattle.{rnix_green.{specs.Tree.{Item, items_of}, proofs.InsideLemmas.{elements_in_all}}, rnix_c.specs.Elements.{element_of}}
use Rattle.rnix_c.proofs.elements.written.Goals as goal

pub fill-requires : goal.fill-requires
fill-requires c = omega (arith, ap (λ (i : Item). i.below) c.element-count.ensures.is, elements_in_all c.args.green.now)

pub returns : goal.returns
returns c = (
  omega (
    arith,
    ints,
    ap (λ (i : Item). i.below) c.element-count.ensures.is,
    elements_in_all c.args.green.now,
    length-map (items_of c.args.green.now) element_of,
  ),
  c.fill.ensures,
)
