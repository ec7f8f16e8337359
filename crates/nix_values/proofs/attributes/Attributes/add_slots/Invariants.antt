use Rattle.nix_values.proofs.AttributeGrowthLemmas.{IsAddedTill}
use Rattle.nix_values.proofs.attributes.Attributes.add_slots.Given as goal

abbrev pub invariant-loop-slot : goal.invariant-loop-slot
invariant-loop-slot g l = IsAddedTill (g.V.Values.keys l.values) l.from l.self l.slot-index
