-- Attributes ordered by name.
use Rattle.std.specs.Prelude.{◌≡◌, ◌⊎◌, ℕ, ◌==◌, ◌&&◌, List, [], ◌∷◌, Option, Some, None, option_and_then, if◌then◌else◌}
use Rattle.std.specs.Str.{bytes_eq}
use Rattle.std.specs.Ordering.{nat_cmp}
use Rattle.std.specs.BTreeMap.{get, get_by_text}
use Rattle.nix_values.specs.declared.ordered.OrderedAttributes.{OrderedAttributes}

-- the attribute with a name in a set
abbrev pub crowded_in : OrderedAttributes → ℕ → List ℕ → Option ℕ
crowded_in ordered set name = option_and_then (λ sets. get nat_cmp sets set) (get_by_text ordered.names name)

-- there are no attributes
abbrev pub HasNoCrowded : OrderedAttributes → Type 0
HasNoCrowded ordered = (set : ℕ) (name : List ℕ) → crowded_in ordered set name ≡ None

-- a value becomes the attribute with a name in a set, and all others are unchanged
abbrev pub IsWithCrowded : OrderedAttributes → ℕ → List ℕ → ℕ → OrderedAttributes → Type 0
IsWithCrowded old set name value new =
    (s : ℕ) (n : List ℕ) → crowded_in new s n ≡ (if set == s && bytes_eq name n then Some value else crowded_in old s n)

-- both have the same attributes
abbrev pub IsSameCrowded : OrderedAttributes → OrderedAttributes → Type 0
IsSameCrowded old new = (set : ℕ) (name : List ℕ) → crowded_in new set name ≡ crowded_in old set name

-- a value is one of these
abbrev pub IsOneOf : {X : Type 0} → List X → X → Type 0
IsOneOf [] x = ⊥
IsOneOf (y ∷ ys) x = (y ≡ x) ⊎ IsOneOf ys x
