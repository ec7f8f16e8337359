-- The outcome of a call for the parse of a text after an edit.
use Rattle.std.specs.Prelude.{◌≡◌, ◌⊎◌, ◌<◌, ◌≤◌, ◌^◌, ℕ, ℤ, List, length, IsUtf8}
use Rattle.rnix_green.specs.Tree.{Tree}
use Rattle.rnix_grammar.specs.Fault.{Fault}
use Rattle.rnix_grammar.specs.Parsed.{IsParsed}
use Rattle.rnix_kinds.specs.Lexical.Tokens.{tokens_of}
use Rattle.rnix_reparse.specs.EditedRange.{edited}
use Rattle.rnix_reparse.specs.EditableRanges.{between, IsEditable}
use Rattle.rnix_c.specs.Answers.{none_such, too_long, IsRefused}

-- why a text is not edited: it has no such range, or the text after the edit would have 2 ^ 32 bytes or more
abbrev pub IsNoEdit : List ℕ → ℕ → ℕ → List ℕ → ℤ → Type 0
IsNoEdit text start end replacement answer =
    ((answer ≡ none_such) × ¬ IsEditable text start end)
    ⊎ ((answer ≡ too_long) × IsEditable text start end × (2 ^ 32 ≤ length (edited (between start end) replacement text)))

-- a text can be read: it is UTF-8, and short enough
abbrev pub IsReadable : List ℕ → Type 0
IsReadable text = IsUtf8 text × (length text < 2 ^ 32)

-- why there is no parse of the text after an edit: the old text or the new bytes cannot be read, or memory is refused; or both can be read, but the edit
-- cannot be made
abbrev pub IsEditRefused : List ℕ → ℕ → ℕ → List ℕ → ℤ → Type 0
IsEditRefused text start end replacement answer =
    (IsRefused text answer ⊎ IsRefused replacement answer)
    ⊎ (IsReadable text × IsReadable replacement × IsNoEdit text start end replacement answer)

-- the call is refused and the arrays are unchanged, or the statement holds for the tree and the errors of the text after the edit
abbrev pub AnswersEdit : List ℕ → ℕ → ℕ → List ℕ → ℤ → Type 0 → (Tree → List Fault → Type 0) → Type 0
AnswersEdit text start end replacement answer Unchanged Promise =
    (IsEditRefused text start end replacement answer × Unchanged)
    ⊎ (IsEditable text start end × IsUtf8 (edited (between start end) replacement text)
    × ((tree : Tree) × (faults : List Fault) × IsParsed (tokens_of (edited (between start end) replacement text)) tree faults × Promise tree faults))
