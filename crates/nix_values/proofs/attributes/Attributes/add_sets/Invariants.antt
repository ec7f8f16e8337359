use Rattle.nix_values.proofs.AttributeGrowthLemmas.{AreSetsTill}
use Rattle.nix_values.proofs.attributes.Attributes.add_sets.Given as goal

abbrev pub invariant-loop-number : goal.invariant-loop-number
invariant-loop-number g l =
    (goal.iterator-loop-number g).can_next l.number-iterator × (goal.iterator-loop-number g).is_finite l.number-iterator
    × AreSetsTill (g.V.Values.keys l.values) l.from l.sets l.initial.self l.self l.number-iterator
