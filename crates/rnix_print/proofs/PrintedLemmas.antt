-- Texts without errors.
use Rattle.std.proofs.Common.{◌≡◌, ◌↔◌, ℕ, suc, ◌==◌, Bool, true, List, [], ◌∷◌, length, map, refl, sym, ◌∙◌, arith}
use Rattle.std.proofs.lemmas.Bool.{eqb-true}

-- a list with an item is not empty
some_item : {A : Type 0} {x : A} {xs : List A} → x ∷ xs ≡ [] → ⊥
some_item h = cc

-- no number is 0 and follows another one
follows_none : (n : ℕ) → suc n ≡ 0 → ⊥
follows_none n same = omega (arith, same)

-- a list is empty exactly if the list of its images is
pub empty_alike : {A B : Type 0} (f : A → B) (items : List A) (empty : Bool) → empty ≡ (length items == 0) → (empty ≡ true) ↔ (map f items ≡ [])
empty_alike f [] empty is = (λ _. refl, λ _. is)
empty_alike f (x ∷ xs) empty is =
    (λ none. absurd (follows_none (length xs) (eqb-true (length (x ∷ xs)) 0 (sym is ∙ none))), λ none. absurd (some_item none))
