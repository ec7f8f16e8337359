-- What calls write for a formatted text.
use Rattle.std.specs.Prelude.{◌≡◌, ◌⊎◌, ℕ, ℤ, List, IsUtf8}
use Rattle.nix_formatting.specs.Retokened.{IsFormatted}
use Rattle.nix_formatting.specs.Formatted.{IsWithErrors, IsWithoutErrors}
use Rattle.rnix_c.specs.Answers.{no_memory, has_errors, different, IsRefused, IsWritten}

-- why no new text is written: memory is refused, the text has errors, or it has none and is refused all the same
abbrev pub IsUnformatted : List ℕ → ℤ → Type 0
IsUnformatted text answer = (answer ≡ no_memory) ⊎ (((answer ≡ has_errors) × IsWithErrors text) ⊎ ((answer ≡ different) × IsWithoutErrors text))

-- a text that differs from this one only in white space, in the indentation of strings, in the commas of patterns and in the marks of comments is written, or
-- nothing is
abbrev pub WritesFormat : List ℕ → ℤ → List ℕ → List ℕ → Type 0
WritesFormat text answer old new =
    (IsUnformatted text answer × (new ≡ old)) ⊎ ((made : List ℕ) × IsFormatted text made × IsWritten made answer old new)

-- the outcome of a call for the formatted text
abbrev pub AnswersFormat : List ℕ → ℤ → List ℕ → List ℕ → Type 0
AnswersFormat text answer old new = (IsRefused text answer × (new ≡ old)) ⊎ (IsUtf8 text × WritesFormat text answer old new)
