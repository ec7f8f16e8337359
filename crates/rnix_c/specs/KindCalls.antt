-- What calls return for kinds.
use Rattle.std.specs.Prelude.{◌≡◌, ◌⊎◌, ◌≤◌, ℕ, ℤ, pos, List}
use Rattle.rnix_kinds.specs.declared.kinds.SyntaxKind.{SyntaxKind}
use Rattle.rnix_kinds.specs.SyntaxKind.{name_of, discriminant_of, kind_count}
use Rattle.rnix_c.specs.Answers.{none_such, IsWritten}

-- there is no kind with this number, or its name is written
abbrev pub NamesKind : ℕ → ℤ → List ℕ → List ℕ → Type 0
NamesKind number answer old new =
    ((kind_count ≤ number) × (answer ≡ none_such) × (new ≡ old))
    ⊎ ((kind : SyntaxKind) × (discriminant_of kind ≡ number) × IsWritten (name_of kind) answer old new)

-- there is no kind with this name, or its number is returned
abbrev pub FindsKind : List ℕ → ℤ → Type 0
FindsKind name answer =
    ((answer ≡ none_such) × ((kind : SyntaxKind) → ¬ (name_of kind ≡ name)))
    ⊎ ((kind : SyntaxKind) × (name_of kind ≡ name) × (answer ≡ pos (discriminant_of kind)))
