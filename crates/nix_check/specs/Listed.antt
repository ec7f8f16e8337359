-- Pieces of output for the values of a list, one after another.
use Rattle.std.specs.Prelude.{ℕ, ◌+◌, ◌==◌, List, [], ◌∷◌, ◌++◌, length, codes, Option, if◌then◌else◌}
use Rattle.std.specs.{List.flat_map, Io.KnownBytes.Appends}

-- bytes that satisfy a statement are appended
abbrev pub Prints : (List ℕ → Type 0) → Option (List ℕ) → Option (List ℕ) → Type 0
Prints Holds old new = (bytes : List ℕ) × Holds bytes × Appends old new bytes

-- the concatenated pieces of some values: for each value, numbered from `first` on, one of the pieces that it may have
pub data AreListed {A : Type 0} (Has : ℕ → A → List ℕ → Type 0) (first : ℕ) : List A → List ℕ → Type 0 where
  none_listed : AreListed Has first [] []
  one_listed : (xs : List A) (pieces : List ℕ) (x : A) (piece : List ℕ) → AreListed Has first xs pieces → Has (first + length xs) x piece →
      AreListed Has first (xs ++ x ∷ []) (pieces ++ piece)

-- the comma before the value with a number, unless it is the first
abbrev pub comma : ℕ → List ℕ
comma number = if number == 0 then [] else codes ","

-- texts with commas between them
abbrev pub comma_joined : List (List ℕ) → List ℕ
comma_joined [] = []
comma_joined (text ∷ texts) = text ++ flat_map (λ more. codes "," ++ more) texts
