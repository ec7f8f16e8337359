use Rattle.nix_values.proofs.AttributeGrowthLemmas.{grown_same}
use Rattle.nix_values.proofs.AttributeInsertLemmas.{empty_sound, empty_within}
use Rattle.nix_values.proofs.attributes.Attributes.grow.Goals as goal

pub add_slots-requires-clause-sound : goal.add_slots-requires-clause-sound
add_slots-requires-clause-sound g c =
    empty_sound (g.V.Values.keys c.args.values.now) (record { slots = c.in_ok-with_room.field-0; crowded = c.new.result }) c.in_ok-with_room.ensures
    c.new.ensures

pub add_slots-requires-clause-within : goal.add_slots-requires-clause-within
add_slots-requires-clause-within g c =
    empty_within (g.V.Values.keys c.args.values.now) (record { slots = c.in_ok-with_room.field-0; crowded = c.new.result }) c.args.self.now
    c.in_ok-with_room.ensures c.new.ensures

pub returns-clause-grown : goal.returns-clause-grown
returns-clause-grown g c =
    grown_same (g.V.Values.keys c.args.values.now) c.args.self.now c.add_slots.new.self c.add_crowded.new.self c.requires c.in_ok-add_slots.ensures
    c.in_ok-add_crowded.ensures
