use Rattle.std.proofs.Common.{◌∙◌, ◌+◌, sym, subst}
use Rattle.nix_values.proofs.AttributeGrowthLemmas.{IsAddedTill, entry_new, entry_added, entry_free}
use Rattle.nix_values.proofs.attributes.Attributes.add_slots.Goals as goal
use Rattle.nix_values.proofs.attributes.Attributes.add_slots.Goals.{in-Some+in_ok-add, in_default}

pub add-requires-clause-other : goal.add-requires-clause-other
add-requires-clause-other g c =
    entry_new (g.V.Values.keys c.args.values.now) c.args.from.now c.slots-slot-items.result.now c.loop-slot.slot-index (record { hash = 0; number = 0 })
    c.slots-slot-items.ensures c.loop-slot-test.true c.loop-slot.self c.in-Some.hash c.in-Some.number (sym c.in-Some.is ∙ c.entry.ensures)
    c.requires.others c.loop-slot.invariant.within

pub loop-slot-preserved : goal.loop-slot-preserved
loop-slot-preserved g c = elim c.match-entry.branch [
  | in-Some+in_ok-add w ↦
      subst (λ a. IsAddedTill (g.V.Values.keys c.args.values.now) c.args.from.now a (c.loop-slot.slot-index + 1)) (sym w.self-is)
      (entry_added (g.V.Values.keys c.args.values.now) c.args.from.now c.slots-slot-items.result.now c.loop-slot.slot-index
      (record { hash = 0; number = 0 }) c.slots-slot-items.ensures c.loop-slot-test.true c.loop-slot.self w.add.new.self w.in-Some.hash
      w.in-Some.number (sym w.in-Some.is ∙ c.entry.ensures) c.requires.others c.loop-slot.invariant w.in_ok-add.ensures)
  | in_default w ↦
      subst (λ a. IsAddedTill (g.V.Values.keys c.args.values.now) c.args.from.now a (c.loop-slot.slot-index + 1)) (sym w.self-is)
      (entry_free (g.V.Values.keys c.args.values.now) c.args.from.now c.slots-slot-items.result.now c.loop-slot.slot-index
      (record { hash = 0; number = 0 }) c.slots-slot-items.ensures c.loop-slot-test.true c.loop-slot.self (sym w.in_default.is ∙ c.entry.ensures)
      c.loop-slot.invariant)
]
