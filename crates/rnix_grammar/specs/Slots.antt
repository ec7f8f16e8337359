-- The slots of the table of rows.
use Rattle.std.specs.Prelude.{ℕ, Option}
use Rattle.std.specs.List.{slice_get}
use Rattle.rnix_grammar.specs.declared.slot_table.Slot.{Slot}
use Rattle.rnix_grammar.specs.declared.slot_table.TheConstants.{SLOTS}

-- the slot at an index, if there is one
abbrev pub slot_at : ℕ → Option Slot
slot_at i = slice_get SLOTS i
