-- Lines and columns.
use Rattle.std.specs.Prelude.{◌≡◌, ℕ, ◌+◌, ◌==◌, nat_lt, List, take, fold, if◌then◌else◌}
use Rattle.std.specs.Str.{IsCharBoundary}
use Rattle.rnix_text.specs.declared.line_column.ColumnUnit.{ColumnUnit}
use Rattle.rnix_text.specs.declared.line_column.ColumnUnit.TheVariants.{Bytes, Chars, Utf16}
use Rattle.rnix_text.specs.declared.line_column.Position.{Position}

-- the byte that ends a line
abbrev pub newline : ℕ
newline = 10

-- what a byte adds to a column: a character counts at its first byte, and bytes from 128 to 191 begin none; in UTF-16 a character that begins
-- with 240 or more has two units
abbrev pub weight : ColumnUnit → ℕ → ℕ
weight Bytes b = 1
weight Chars b = if nat_lt b 128 then 1 else (if nat_lt b 192 then 0 else 1)
weight Utf16 b = if nat_lt b 128 then 1 else (if nat_lt b 192 then 0 else (if nat_lt b 240 then 1 else 2))

-- the start of a text
abbrev pub origin : Position
origin = record { line = 0; column = 0 }

-- the position after a byte: a newline begins a line
abbrev pub step : ColumnUnit → Position → ℕ → Position
step unit p b =
    if b == newline then record { line = p.line + 1; column = 0 }
    else record { line = p.line; column = p.column + weight unit b }

-- the position of an offset: the one after the bytes before the offset
abbrev pub position_at : ColumnUnit → List ℕ → ℕ → Position
position_at unit text offset = fold (step unit) origin (take offset text)

-- a character begins or ends at the offset, and the offset has this position
abbrev pub IsAt : ColumnUnit → List ℕ → Position → ℕ → Type 0
IsAt unit text position offset = IsCharBoundary text offset × (position_at unit text offset ≡ position)
