-- What a comment says.
use Rattle.std.specs.Prelude.{◌≡◌, ◌⊎◌, ℕ, List, ◌++◌, codes}

-- the text is `#` and then what is said
abbrev pub IsLine : List ℕ → List ℕ → Type 0
IsLine text said = text ≡ codes "#" ++ said

-- the comment's text is that between `/*` and `*/`
abbrev pub IsBlock : List ℕ → List ℕ → Type 0
IsBlock text said = text ≡ codes "/*" ++ (said ++ codes "*/")

-- the text is neither
abbrev pub IsNeither : List ℕ → Type 0
IsNeither text = ((said : List ℕ) → ¬ IsLine text said) × ((said : List ℕ) → ¬ IsBlock text said)

-- a comment of the text says this: what is after `#` or between `/*` and `*/`, and of a text that is neither the whole
abbrev pub Says : List ℕ → List ℕ → Type 0
Says text said = IsLine text said ⊎ (IsBlock text said ⊎ ((said ≡ text) × IsNeither text))
