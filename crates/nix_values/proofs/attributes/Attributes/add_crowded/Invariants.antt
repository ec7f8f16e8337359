use Rattle.nix_values.proofs.AttributeGrowthLemmas.{AreNamesTill}
use Rattle.nix_values.proofs.attributes.Attributes.add_crowded.Given as goal

abbrev pub invariant-loop-sets : goal.invariant-loop-sets
invariant-loop-sets g l =
    (goal.iterator-loop-sets g).can_next l.sets-iterator × (goal.iterator-loop-sets g).is_finite l.sets-iterator
    × AreNamesTill (g.V.Values.keys l.values) l.from l.initial.self l.self l.sets-iterator
