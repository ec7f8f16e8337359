-- Lists that are built element by element.
use Rattle.std.proofs.Common.{◌≡◌, List, [], ◌∷◌, ◌++◌, Some, None, ap, sym, refl, ◌∙◌, append_assoc}
use Rattle.std.proofs.lemmas.Option.{none-some, same_Some}
use Rattle.std.specs.Prelude.{flat_map, slice_get}

-- the list for one more element is added
pub listing_more : {A X : Type 0} (f : A → List X) (so_far new all : List X) (before after : List A) (e : A) → so_far ++ flat_map f before ≡ all →
    before ≡ e ∷ after → new ≡ so_far ++ f e → new ++ flat_map f after ≡ all
listing_more f so_far new all before after e is first added =
    ap (λ xs. xs ++ flat_map f after) added ∙ append_assoc so_far (f e) (flat_map f after) ∙ ap (λ es. so_far ++ flat_map f es) (sym first) ∙ is

-- a list with a first element but no second one
pub only_one : {X : Type 0} (xs : List X) (x : X) → slice_get xs 0 ≡ Some x → slice_get xs 1 ≡ None → xs ≡ x ∷ []
only_one [] x first none = absurd (none-some x first)
only_one (y ∷ []) x first none = ap (λ z. z ∷ []) (same_Some y x first)
only_one (y ∷ z ∷ zs) x first none = absurd (none-some z (sym none))

-- a list without a first element
pub none_at_all : {X : Type 0} (xs : List X) → slice_get xs 0 ≡ None → xs ≡ []
none_at_all [] none = refl
none_at_all (y ∷ ys) none = absurd (none-some y (sym none))
