-- How far a position is from the end of its row.
use Rattle.std.specs.Prelude.{ℕ, zero, suc, ◌+◌, false, Option, Some, None}
use Rattle.rnix_grammar.specs.declared.position.Position.{Position}
use Rattle.rnix_grammar.specs.declared.position.Position.TheVariants as p
use Rattle.rnix_grammar.specs.declared.slot_table.Slot.{Slot}
use Rattle.rnix_grammar.specs.declared.slot_table.Slot.TheVariants.{Next}
use Rattle.rnix_grammar.specs.declared.rules.Part.TheVariants.{Attr, Attrpath}
use Rattle.rnix_grammar.specs.declared.action.Action.{Action}
use Rattle.rnix_grammar.specs.declared.action.Action.TheVariants as a
use Rattle.rnix_grammar.specs.Slots.{slot_at}
use Rattle.rnix_grammar.specs.Actions.{action_at}

-- a step with an action and those that follow in its row, where so many follow from each position
abbrev pub steps_with : (Position → ℕ) → Action → ℕ
steps_with steps (a.Miss after) = suc (steps (p.InRow after))
steps_with steps (a.MissWanted until after) = suc (steps (p.InRow after))
steps_with steps (a.Read level counted after) = suc (steps (p.InRow after))
steps_with steps (a.OpenEmpty k inside after) = suc (steps (p.InRow inside) + steps (p.InRow after))
steps_with steps action = 1

-- the steps from a position to the end of its row where the text has ended, so many positions on at most
abbrev pub steps_from : ℕ → Position → ℕ
steps_from zero position = 0
steps_from (suc n) position = steps_with (steps_from n) (action_at position None false)

-- no row has more positions, one after another
abbrev pub most_positions : ℕ
most_positions = 7

-- the steps from a position to the end of its row where the text has ended, with those of a node that begins there without an item
abbrev pub measure : Position → ℕ
measure position = steps_from most_positions position

-- more than the measures of any two positions together
abbrev pub full_start_measure : ℕ
full_start_measure = 30

-- where attributes are wanted a node may have begun without an item, and it takes one next
abbrev pub start_measure_in : Option Slot → ℕ
start_measure_in (Some (Next Attrpath)) = 0
start_measure_in (Some (Next Attr)) = 0
start_measure_in slot = full_start_measure

-- the same at a position
abbrev pub start_measure : Position → ℕ
start_measure (p.InRow index) = start_measure_in (slot_at index)
start_measure (p.AfterOperand min_bp max_bp) = full_start_measure
start_measure (p.Right level) = full_start_measure
