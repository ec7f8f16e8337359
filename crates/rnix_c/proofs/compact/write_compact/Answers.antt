use Rattle.std.proofs.{Common.{arith}, lemmas.{Int.{ints}, List.{length-map}}}
use Rattle.{rnix_green.specs.Tree.{items_of}, rnix_c.specs.CompactElements.{range_of}}
use Rattle.rnix_c.proofs.compact.write_compact.Goals as goal

pub returns-clause-ranges : goal.returns-clause-ranges
returns-clause-ranges c = (
  omega (arith, ints, c.element_count-count.ensures.value, c.requires.few, length-map (items_of c.args.green.now) range_of),
  c.fill.ensures.ranges,
)
