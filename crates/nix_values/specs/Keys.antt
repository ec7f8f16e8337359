-- The attributes among values.
use Rattle.std.specs.Prelude.{ℕ, ◌==◌, ◌&&◌, Bool, false, List, Option, Some, None}
use Rattle.std.specs.Str.{bytes_eq}

-- for the number of a value, the number of the set whose attribute it is, and its name
abbrev pub Keys : Type 0
Keys = ℕ → Option (ℕ × List ℕ)

-- whether this is the attribute with a name in a set
abbrev pub is_key : Option (ℕ × List ℕ) → ℕ → List ℕ → Bool
is_key None set name = false
is_key (Some key) set name = key.0 == set && bytes_eq key.1 name
