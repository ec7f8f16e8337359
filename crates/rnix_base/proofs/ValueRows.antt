-- The values of certain strings.
use Rattle.{std.{proofs.Common.{◌≡◌, List, [], ◌∷◌, ◌++◌, refl, codes}, specs.Prelude.ℕ}, rnix_base.specs.declared.parts.InterpolPart.TheVariants.{Literal, Interpolation}}
use Rattle.rnix_base.specs.{Escapes.values, Normal.{symbols, lines, least_indentation, part_text, with_texts}, Value.{marked, ended, with_line_feeds, indented_value, quoted_value}}

-- an escaped line feed begins a line that loses blanks
escaped_feed : indented_value {I = ℕ} (Literal (codes "\n  a''\\n   b\n") ∷ []) ≡ (Literal (codes "a\n b\n") ∷ [])
unfolding values symbols lines least_indentation part_text with_texts marked ended
escaped_feed = refl

-- an escaped line feed does not count for the least indentation
not_counted : indented_value {I = ℕ} (Literal (codes "\n    a''\\n b\n    c") ∷ []) ≡ (Literal (codes "a\nb\nc") ∷ [])
unfolding values symbols lines least_indentation part_text with_texts marked ended
not_counted = refl

-- the blanks after an escaped line feed belong to the value
blanks_stay : indented_value {I = ℕ} (Literal (codes "\n        x''\\\n              ") ∷ []) ≡ (Literal (codes "x\n      ") ∷ [])
unfolding values symbols lines least_indentation part_text with_texts marked ended
blanks_stay = refl

-- an escaped blank at the start of a line is removed like any other
escaped_blank : indented_value {I = ℕ} (Literal (codes "\n  a''\\n''\\  b''\\ c") ∷ []) ≡ (Literal (codes "a\nb c") ∷ [])
unfolding values symbols lines least_indentation part_text with_texts marked ended
escaped_blank = refl

-- `'''` is an escape, so the backslash and the line feed after it are not
three_quotes : indented_value {I = ℕ} (Literal (codes "\n  a'''\\\n  ") ∷ []) ≡ (Literal (codes "a''\\\n") ∷ [])
unfolding values symbols lines least_indentation part_text with_texts marked ended
three_quotes = refl

-- without escapes the value is that of the lines
plain_lines : indented_value {I = ℕ} (Literal (codes "\n  hello\n    ") ∷ Interpolation 0 ∷ Literal (codes "\n\n   y\n ") ∷ []) ≡ (Literal (codes "hello\n  ")
    ∷ Interpolation 0 ∷ Literal (codes "\n\n y\n") ∷ [])
unfolding values symbols lines least_indentation part_text with_texts marked ended
plain_lines = refl

-- carriage returns in `"` are line feeds
returns_fed : quoted_value {I = ℕ} (Literal (codes "a\r\nb\rc\\\r\nd\\r") ∷ []) ≡ (Literal (codes "a\nb\nc\r\nd\r") ∷ [])
unfolding values with_line_feeds
returns_fed = refl
