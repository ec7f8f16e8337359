use Rattle.{std.proofs.Common.arith, rnix_tree.proofs.DirectionLemmas.siblings_of-few}
use Rattle.rnix_tree.proofs.siblings.SiblingsWithTokens.new.Goals as goal

pub returns-clause-fits : goal.returns-clause-fits
returns-clause-fits c =
    omega (
      arith,
      siblings_of-few c.args.direction record { tree = c.args.green.now; number = c.args.number } c.requires,
      c.element_count-count.ensures.value,
      c.element_count-count.ensures.fits,
    )
