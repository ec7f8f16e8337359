-- Names that mean something to others than those who write them.
use Rattle.std.specs.Prelude.{◌≡◌, ℕ, Bool, true, false, ◌&&◌, not, List, [], ◌∷◌, codes, slice_get, Option, Some, None}
use Rattle.std.specs.List.{All, Contains, list_any}
use Rattle.std.specs.Str.{bytes_eq}
use Rattle.nix_scopes.specs.Binders.{is_recursive}
use Rattle.nix_update.specs.declared.steps.PathStep.{PathStep}

-- the names to which operators and paths in `<>` refer, or that a set treats specially
abbrev pub special_names : List (List ℕ)
special_names =
    codes "__sub" ∷ codes "__mul" ∷ codes "__div" ∷ codes "__lessThan" ∷ codes "__findFile" ∷ codes "__nixPath" ∷ codes "__overrides" ∷ []

-- whether a name is one of these
abbrev pub is_special : List ℕ → Bool
is_special name = list_any (bytes_eq name) special_names

-- whether there is a name, and it is one of these
abbrev pub is_special_if : Option (List ℕ) → Bool
is_special_if None = false
is_special_if (Some name) = is_special name

-- whether an expression along the path is a `rec` set, to which no name of a `let` leads, and the next name of the path is such a name
abbrev pub is_special_step : List (List ℕ) → PathStep → Bool
is_special_step names w = not w.in_let && (is_special_if (slice_get names w.at) && is_recursive w.node)

-- there is such an expression along the path
abbrev pub HasSpecialName : List (List ℕ) → List PathStep → Type 0
HasSpecialName names steps = (w : PathStep) × Contains steps w × (is_special_step names w ≡ true)

-- there is none
abbrev pub HasNoSpecialName : List (List ℕ) → List PathStep → Type 0
HasNoSpecialName names steps = All (λ (w : PathStep). is_special_step names w ≡ false) steps
