-- The location of an offset in messages: the name of the text, the line and the column. A text is the list of its bytes.
use Rattle.std.specs.Prelude.{◌≡◌, ℕ, ◌+◌, ◌&&◌, ◌||◌, nat_lt, nat_le, Bool, List, ◌++◌, codes, decimal, length, slice_index, if◌then◌else◌}
use Rattle.std.specs.Str.{bytes_eq}
use Rattle.rnix_text.specs.declared.line_column.ColumnUnit.TheVariants.{Chars}
use Rattle.rnix_text.specs.Positions.{position_at}
use Rattle.nix_cli.specs.declared.source.Source.{Source}

-- the name of a file in messages: `<stdin>` for standard input, whose name is `-`
abbrev pub display_name : List ℕ → List ℕ
display_name name = if bytes_eq name (codes "-") then codes "<stdin>" else name

-- whether an offset is at the start of a character of a text, or at the end of the text
abbrev pub is_boundary : List ℕ → ℕ → Bool
is_boundary text offset =
    nat_le offset (length text) && (nat_le (length text) offset || (nat_lt (slice_index text offset) 128 || nat_le 192 (slice_index text offset)))

-- the line and the column of an offset, both counted from 1, where columns count characters; those of the start of the text if the offset is inside a
-- character, or after the end of the text
abbrev pub line_and_column : List ℕ → ℕ → ℕ × ℕ
line_and_column text offset =
    if is_boundary text offset
    then ((position_at Chars text offset).line + 1, (position_at Chars text offset).column + 1)
    else (1, 1)

-- the beginning of a message: a name, a line and a column
abbrev pub location_with : List ℕ → ℕ × ℕ → List ℕ
location_with name location = name ++ codes ":" ++ decimal location.0 ++ codes ":" ++ decimal location.1 ++ codes ": "

-- the beginning of a message about an offset of a text
abbrev pub location_text : List ℕ → List ℕ → ℕ → List ℕ
location_text name text offset = location_with name (line_and_column text offset)

-- the index is that of the text, and its columns count characters
abbrev pub IsIndexed : Source → Type 0
IsIndexed source = source.index.now ≡ record { text = source.text.now; unit = Chars }
