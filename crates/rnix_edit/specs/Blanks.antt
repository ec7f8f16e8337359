-- Blanks and line breaks of a text. A blank is a space or a tab.
use Rattle.std.specs.Prelude.{ℕ, zero, suc, ◌+◌, ◌-◌, ◌==◌, ◌&&◌, ◌||◌, Bool, List, [], ◌∷◌, drop, slice_index, slice_range, if◌then◌else◌}
use Rattle.std.specs.List.{prefix_len}

-- whether a byte is a blank
abbrev pub is_blank : ℕ → Bool
is_blank byte = byte == 32 || byte == 9

-- the byte before an offset; before the first one, a line feed
abbrev pub byte_before : List ℕ → ℕ → ℕ
byte_before text offset = if offset == 0 then 10 else slice_index text (offset - 1)

-- whether a line begins at an offset
abbrev pub begins_line : List ℕ → ℕ → Bool
begins_line text offset = byte_before text offset == 10

-- where the blanks before an offset begin
abbrev pub blanks_start : List ℕ → ℕ → ℕ
blanks_start text zero = zero
blanks_start text (suc n) = if is_blank (slice_index text n) then blanks_start text n else suc n

-- the blanks before an offset
abbrev pub blanks_before : List ℕ → ℕ → List ℕ
blanks_before text offset = slice_range text (blanks_start text offset) offset

-- where the blanks after an offset end
abbrev pub blanks_end : List ℕ → ℕ → ℕ
blanks_end text offset = offset + prefix_len is_blank (drop offset text)

-- the line break that ends at an offset; a line feed if none does
abbrev pub line_break_before : List ℕ → ℕ → List ℕ
line_break_before text offset = if begins_line text offset && byte_before text (offset - 1) == 13 then 13 ∷ 10 ∷ [] else 10 ∷ []

-- whether an opening bracket precedes an offset: `{`, `[` or `(`
abbrev pub follows_opening : List ℕ → ℕ → Bool
follows_opening text offset = byte_before text offset == 123 || (byte_before text offset == 91 || byte_before text offset == 40)
