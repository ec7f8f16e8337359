-- What is left of a row at an index of the table of rows.
use Rattle.std.specs.Prelude.{ℕ, List, [], ◌∷◌, drop}
use Rattle.rnix_kinds.specs.declared.kinds.SyntaxKind.{SyntaxKind}
use Rattle.rnix_kinds.specs.declared.kinds.SyntaxKind.TheVariants.{NODE_LITERAL}
use Rattle.rnix_grammar.specs.declared.slot_table.Slot.{Slot}
use Rattle.rnix_grammar.specs.declared.slot_table.Slot.TheVariants.{Next, End}
use Rattle.rnix_grammar.specs.declared.slot_table.TheConstants.{SLOTS}
use Rattle.rnix_grammar.specs.Rules.{Row, never, done, ◌·◌}

-- what is left of a row, by the slots from its index on
abbrev pub remaining_in : List Slot → Row
remaining_in [] = never
remaining_in (Next p ∷ ss) = p · remaining_in ss
remaining_in (End kind ∷ ss) = done

-- what is left of a row at an index
abbrev pub remaining_at : ℕ → Row
remaining_at i = remaining_in (drop i SLOTS)

-- the kind of node whose row this is, by the slots from its index on
abbrev pub kind_in : List Slot → SyntaxKind
kind_in [] = NODE_LITERAL
kind_in (Next p ∷ ss) = kind_in ss
kind_in (End kind ∷ ss) = kind

-- the kind of node whose row this is, at an index
abbrev pub kind_at : ℕ → SyntaxKind
kind_at i = kind_in (drop i SLOTS)
