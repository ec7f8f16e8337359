-- A text whose columns are counted in a unit.
use Rattle.std.specs.Prelude.{ℕ, List, Bool}
use Rattle.rnix_text.specs.declared.line_column.ColumnUnit.{ColumnUnit}
use Rattle.rnix_text.specs.declared.line_column.Mark.{Mark}
use Rattle.rnix_text.specs.Marks.{first_mark, marks_after, last_of}

-- a text, and the unit of its columns
pub record Counted : Type 0 where
  pub text : List ℕ
  pub unit : ColumnUnit

-- the last of the leading marks of a text that pass a test
abbrev pub last_mark : (Mark → Bool) → Counted → Mark
last_mark test c = last_of test first_mark (marks_after c.unit first_mark c.text)
