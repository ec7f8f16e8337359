-- What is made of the elements of a list, one after another.
use Rattle.std.specs.Prelude.{List, [], ◌∷◌, Option, Some, option_and_then}

-- what is made by adding each element of a list to what is made so far, unless one cannot be added
abbrev pub each : {X M : Type 0} → (X → M → Option M) → List X → M → Option M
each add [] made = Some made
each add (x ∷ xs) made = option_and_then (each add xs) (add x made)
