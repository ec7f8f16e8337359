-- The values in a builder.
use Rattle.std.specs.Prelude.{◌≡◌, ℕ, List, [], ◌∷◌, ◌++◌, length, map, Option}
use Rattle.nix_values.specs.declared.builder.Builder.{Builder}
use Rattle.nix_values.specs.Contents.{Plain}
use Rattle.nix_values.specs.Built.{Built, built_of}

-- the values, in the order in which they were added
abbrev pub values_in : Builder → List Built
values_in builder = map built_of builder.values.nodes.items

-- a value is added after all others, and gets the next number
pub record IsAddedLast (old : Builder) (number : ℕ) (parent : Option ℕ) (name : List ℕ) (plain : Plain) (new : Builder) : Type 0 where
  pub numbered : number ≡ length (values_in old)
  pub added : values_in new ≡ values_in old ++ record { parent = parent; name = name; plain = plain } ∷ []
