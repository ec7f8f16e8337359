-- Marks: the offsets after bytes that do not add exactly one to the column.
use Rattle.std.specs.Prelude.{ℕ, ◌+◌, ◌-◌, ◌==◌, ◌&&◌, ◌||◌, not, nat_lt, nat_le, Bool, List, [], ◌∷◌, if◌then◌else◌}
use Rattle.rnix_text.specs.declared.line_column.ColumnUnit.{ColumnUnit}
use Rattle.rnix_text.specs.declared.line_column.Position.{Position}
use Rattle.rnix_text.specs.declared.line_column.Mark.{Mark}
use Rattle.rnix_text.specs.Positions.{newline, weight, origin, step}

-- the byte adds one to the column, as it does to the offset
abbrev pub is_plain : ColumnUnit → ℕ → Bool
is_plain unit b = not (b == newline) && (weight unit b == 1)

-- the start of a text
abbrev pub first_mark : Mark
first_mark = record { offset = 0; position = origin }

-- the mark after a byte
abbrev pub mark_after : ColumnUnit → Mark → ℕ → Mark
mark_after unit m b = record { offset = m.offset + 1; position = step unit m.position b }

-- the marks after a mark that these bytes follow
abbrev pub marks_after : ColumnUnit → Mark → List ℕ → List Mark
marks_after unit m [] = []
marks_after unit m (b ∷ bs) =
    if is_plain unit b then marks_after unit (mark_after unit m b) bs
    else mark_after unit m b ∷ marks_after unit (mark_after unit m b) bs

-- the marks of a text
abbrev pub marks_of : ColumnUnit → List ℕ → List Mark
marks_of unit text = first_mark ∷ marks_after unit first_mark text

-- the position of an offset after a mark, if each byte between them adds one to the column
abbrev pub position_after : Mark → ℕ → Position
position_after m offset = record { line = m.position.line; column = m.position.column + (offset - m.offset) }

-- the mark is at or before the offset
abbrev pub is_before : ℕ → Mark → Bool
is_before o m = nat_le m.offset o

-- the mark is at or before the position
abbrev pub is_up_to : Position → Mark → Bool
is_up_to p m = nat_lt m.position.line p.line || ((m.position.line == p.line) && nat_le m.position.column p.column)

-- the last of the leading marks that pass a test, which the first mark passes
abbrev pub last_of : (Mark → Bool) → Mark → List Mark → Mark
last_of test m [] = m
last_of test m (x ∷ xs) = if test x then last_of test x xs else m
