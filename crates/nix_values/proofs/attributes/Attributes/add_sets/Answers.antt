use Rattle.nix_values.proofs.AttributeGrowthLemmas.{sets_more}
use Rattle.nix_values.proofs.attributes.Attributes.add_sets.Goals as goal

pub loop-number-preserved : goal.loop-number-preserved
loop-number-preserved g c = (
  tt,
  tt,
  sets_more (g.V.Values.keys c.args.values.now) c.args.from.now c.args.sets.now c.args.self.now c.loop-number.self c.add_found.new.self
      c.loop-number.number-iterator c.next.new.self c.in-Some.number.now c.in-Some.ensures.steps c.loop-number.invariant.2 c.in_ok-add_found.ensures,
)
