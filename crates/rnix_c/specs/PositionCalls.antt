-- What calls write for the lines and columns of offsets.
use Rattle.std.specs.Prelude.{◌≡◌, ◌⊎◌, ◌<◌, ◌-◌, ◌^◌, ◌&&◌, ◌||◌, ℕ, ℤ, nat_lt, nat_le, Bool, List, map, length, slice_index, IsUtf8, if◌then◌else◌}
use Rattle.rnix_text.specs.declared.line_column.ColumnUnit.{ColumnUnit}
use Rattle.rnix_text.specs.declared.line_column.ColumnUnit.TheVariants.{Bytes, Chars, Utf16}
use Rattle.rnix_text.specs.Positions.{position_at}
use Rattle.rnix_c.specs.declared.positions.RnixPosition.{RnixPosition}
use Rattle.rnix_c.specs.Answers.{none_such, IsRefused, IsWritten}

-- the unit of columns with a number
abbrev pub IsUnit : ℕ → ColumnUnit → Type 0
IsUnit number Bytes = number ≡ 0
IsUnit number Chars = number ≡ 1
IsUnit number Utf16 = number ≡ 2

-- whether an offset is at the start of a character of a text, or at the end of the text
abbrev pub is_boundary : List ℕ → ℕ → Bool
is_boundary text offset =
    nat_le offset (length text) && (nat_le (length text) offset || (nat_lt (slice_index text offset) 128 || nat_le 192 (slice_index text offset)))

-- what is written for an offset: its line and column, or 2 ^ 64 - 1 for both if it is not in the text or is inside a character
abbrev pub position_of : ColumnUnit → List ℕ → ℕ → RnixPosition
position_of unit text offset =
    if is_boundary text offset
    then record { line = (position_at unit text offset).line; column = (position_at unit text offset).column }
    else record { line = 2 ^ 64 - 1; column = 2 ^ 64 - 1 }

-- what is written for some offsets
abbrev pub positions_of : ColumnUnit → List ℕ → List ℕ → List RnixPosition
positions_of unit text offsets = map (position_of unit text) offsets

-- the outcome of a call for the positions of offsets
abbrev pub AnswersPositions : List ℕ → ℕ → List ℕ → ℤ → List RnixPosition → List RnixPosition → Type 0
AnswersPositions text number offsets answer old new =
    (IsRefused text answer × (new ≡ old))
    ⊎ (IsUtf8 text × (((2 < number) × (answer ≡ none_such) × (new ≡ old))
    ⊎ ((unit : ColumnUnit) × IsUnit number unit × IsWritten (positions_of unit text offsets) answer old new)))
