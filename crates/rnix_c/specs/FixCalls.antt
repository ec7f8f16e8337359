-- What calls write for the fixes of errors.
use Rattle.std.specs.Prelude.{◌≡◌, ◌⊎◌, ◌≤◌, ◌<◌, ℕ, ℤ, pos, List, length, string_bytes}
use Rattle.rnix_kinds.specs.Lexical.Tokens.{tokens_of}
use Rattle.rnix_green.specs.Tree.{Tree}
use Rattle.rnix_grammar.specs.Fault.{Fault}
use Rattle.rnix_grammar.specs.Parsed.{IsParsed}
use Rattle.nix_diagnostics.specs.declared.diagnostic.Diagnostic.{Diagnostic}
use Rattle.nix_fixes.specs.declared.fix.Fix.{Fix}
use Rattle.nix_fixes.specs.Fixes.{IsFix}
use Rattle.rnix_c.specs.declared.fixes.RnixFix.{RnixFix}
use Rattle.rnix_c.specs.Answers.{no_memory, none_such, filled}
use Rattle.rnix_c.specs.Diagnostics.{AreSaid}

-- what is written for a fix: the range that it replaces, and the length of the new text
abbrev pub fix_written : Fix → RnixFix
fix_written fix = record { start = fix.range.start; end = fix.range.end; text_len = length (string_bytes fix.text) }

-- there is no fix and nothing is written, or a fix of a text with this number of errors is written, with its new text
abbrev pub WritesFix : List ℕ → ℕ → ℤ → RnixFix → RnixFix → List ℕ → List ℕ → Type 0
WritesFix text errors answer was is old new =
    ((answer ≡ pos 0) × (is ≡ was) × (new ≡ old))
    ⊎ ((answer ≡ pos 1) × ((fix : Fix) × IsFix text errors fix × (is ≡ fix_written fix) × (new ≡ filled (string_bytes fix.text) old)))

-- memory is refused and nothing is written, or the statement holds
abbrev pub RefusedOr : ℤ → RnixFix → RnixFix → List ℕ → List ℕ → Type 0 → Type 0
RefusedOr answer was is old new other = ((answer ≡ no_memory) × (is ≡ was) × (new ≡ old)) ⊎ other

-- no diagnostic has the number, or a fix of the text is written, or there is none and nothing is written
abbrev pub WritesFixAt : List ℕ → Tree → List Fault → ℕ → ℤ → RnixFix → RnixFix → List ℕ → List ℕ → Type 0
WritesFixAt text tree faults number answer was is old new =
    (all : List Diagnostic) × AreSaid tree faults all
    × (((length all ≤ number) × (answer ≡ none_such) × (is ≡ was) × (new ≡ old))
    ⊎ ((number < length all) × WritesFix text (length faults) answer was is old new))

-- memory is refused and nothing is written, or the same holds of the parse of the text
abbrev pub WritesFixIn : List ℕ → ℕ → ℤ → RnixFix → RnixFix → List ℕ → List ℕ → Type 0
WritesFixIn text number answer was is old new =
    RefusedOr answer was is old new
    ((tree : Tree) × (faults : List Fault) × IsParsed (tokens_of text) tree faults × WritesFixAt text tree faults number answer was is old new)
