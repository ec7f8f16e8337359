-- The codes of diagnostics by number.
use Rattle.std.specs.Prelude.{◌≡◌, ◌⊎◌, ℕ, ℤ, List, slice_get, Option, Some, None}
use Rattle.nix_diagnostics.specs.declared.code.Code.{Code}
use Rattle.nix_diagnostics.specs.Codes.{all_codes, code_name}
use Rattle.rnix_c.specs.Answers.{none_such, IsWritten}

-- there is no code with this number, or its name is written
abbrev pub NamesCode : ℕ → ℤ → List ℕ → List ℕ → Type 0
NamesCode number answer old new =
    ((slice_get all_codes number ≡ None) × (answer ≡ none_such) × (new ≡ old))
    ⊎ ((code : Code) × (slice_get all_codes number ≡ Some code) × IsWritten (code_name code) answer old new)
