-- The attributes found so far among values that are being read.
use Rattle.std.specs.Prelude.{◌≡◌, ℕ, List, [], ◌∷◌, ◌++◌, Option}
use Rattle.nix_values.specs.declared.attributes.Attributes.{Attributes}
use Rattle.nix_values.specs.IndexedAttributes.{found_in, IsConsistent}
use Rattle.nix_values.specs.Contents.{Plain}
use Rattle.nix_values.specs.Built.{Built, keys_of, attribute_of}

-- the index finds exactly the attributes of these values
pub record IsIndex (values : List Built) (attributes : Attributes) : Type 0 where
  pub sound : IsConsistent (keys_of values) attributes
  pub finds : (set : ℕ) (name : List ℕ) → found_in attributes (keys_of values) set name ≡ attribute_of values set name

-- the index finds the attributes of these values and of one more inside a parent, whatever the value
abbrev pub IsIndexWith : List Built → Option ℕ → List ℕ → Attributes → Type 0
IsIndexWith values parent name attributes =
    (plain : Plain) → IsIndex (values ++ record { parent = parent; name = name; plain = plain } ∷ []) attributes
