use Rattle.nix_values.proofs.AttributeGrowthLemmas.{names_added, names_all}
use Rattle.nix_values.proofs.attributes.Attributes.add_crowded.Goals as goal

pub loop-sets-preserved : goal.loop-sets-preserved
loop-sets-preserved g c = (
  tt,
  tt,
  names_added (g.V.Values.keys c.args.values.now) c.args.from.now c.args.self.now c.loop-sets.self c.add_sets.new.self
      c.loop-sets.sets-iterator c.next.new.self c.in-Some.sets.now c.in-Some.ensures.steps c.loop-sets.invariant.2 c.in_ok-add_sets.ensures,
)

pub returns : goal.returns
returns g c =
    names_all (g.V.Values.keys c.args.values.now) c.args.from.now c.args.self.now c.loop-sets.self c.loop-sets.sets-iterator c.loop-sets.invariant.2
    c.in-None.ensures.steps.0
