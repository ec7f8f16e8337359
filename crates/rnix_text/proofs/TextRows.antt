-- The values of the definitions for certain texts, by computation.
use Rattle.{std.proofs.Common.{◌≡◌, ℕ, List, [], ◌∷◌, codes, refl}, rnix_text.specs.declared.line_column.ColumnUnit.TheVariants.{Bytes, Chars, Utf16}}
use Rattle.rnix_text.specs.{Positions.position_at, Marks.{marks_of, first_mark}, Changes.changed_from}

-- U+00E9, a newline, U+1F600 and an x
abbrev text : List ℕ
text = 195 ∷ 169 ∷ 10 ∷ 240 ∷ 159 ∷ 152 ∷ 128 ∷ 120 ∷ []

-- a character of two bytes is two columns in bytes, and one column in characters and in UTF-16
bytes_before_newline : position_at Bytes text 2 ≡ record { line = 0; column = 2 }
bytes_before_newline = refl

chars_before_newline : position_at Chars text 2 ≡ record { line = 0; column = 1 }
chars_before_newline = refl

units_before_newline : position_at Utf16 text 2 ≡ record { line = 0; column = 1 }
units_before_newline = refl

-- a line begins after its newline
after_newline : position_at Utf16 text 3 ≡ record { line = 1; column = 0 }
after_newline = refl

-- a character of four bytes is one column in characters, and two in UTF-16
bytes_after_pair : position_at Bytes text 7 ≡ record { line = 1; column = 4 }
bytes_after_pair = refl

chars_after_pair : position_at Chars text 7 ≡ record { line = 1; column = 1 }
chars_after_pair = refl

units_after_pair : position_at Utf16 text 8 ≡ record { line = 1; column = 3 }
units_after_pair = refl

-- in bytes there is one mark for each line
marks_of_lines : marks_of Bytes (codes "a\nbc") ≡ first_mark ∷ record { offset = 2; position = record { line = 1; column = 0 } } ∷ []
marks_of_lines = refl

-- one letter is replaced, and another one inserted after it
two_changes : changed_from 0 (record { start = 1; end = 2; new = codes "xy" } ∷ record { start = 2; end = 2; new = codes "z" } ∷ [])
    (codes "abc") ≡ codes "axyzc"
two_changes = refl
