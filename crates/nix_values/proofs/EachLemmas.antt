-- Elements of a list that are added one after another.
use Rattle.std.proofs.Common.{◌≡◌, ◌∙◌, List, [], ◌∷◌, ap, sym, Option, Some, None}
use Rattle.std.specs.Prelude.{option_and_then}
use Rattle.nix_values.specs.Each.{each}

-- the remaining elements add the rest
abbrev pub IsRest : {X M : Type 0} → (X → M → Option M) → List X → M → Option M → Type 0
IsRest add remaining made whole = each add remaining made ≡ whole

-- after one more element is added
pub rest_next : {X M : Type 0} (add : X → M → Option M) (remaining after : List X) (x : X) (made new : M) (whole : Option M) → remaining ≡ x ∷ after →
    add x made ≡ Some new → IsRest add remaining made whole → IsRest add after new whole
rest_next add remaining after x made new whole first is rest =
    sym (ap (option_and_then (each add after)) is) ∙ sym (ap (λ xs. each add xs made) first) ∙ rest

-- if an element cannot be added, nothing is made
pub rest_refused : {X M : Type 0} (add : X → M → Option M) (remaining after : List X) (x : X) (made : M) (whole : Option M) → remaining ≡ x ∷ after →
    add x made ≡ None → IsRest add remaining made whole → whole ≡ None
rest_refused add remaining after x made whole first none rest =
    sym rest ∙ ap (λ xs. each add xs made) first ∙ ap (option_and_then (each add after)) none

-- no element remains
pub rest_none : {X M : Type 0} (add : X → M → Option M) (remaining : List X) (made : M) (whole : Option M) → remaining ≡ [] →
    IsRest add remaining made whole → whole ≡ Some made
rest_none add remaining made whole none rest = sym rest ∙ ap (λ xs. each add xs made) none
