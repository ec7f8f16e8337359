-- Lists by their first element.
use Rattle.std.proofs.Common.{◌≡◌, ◌≤◌, Bool, true, false, List, [], ◌∷◌, length, filter, find, Option, Some, None, option_map, refl, ap, sym, ◌∙◌, arith}
use Rattle.std.{proofs.lemmas.List.Sums.{length-filter, count_by-le-length}, specs.{Iterator.YieldsFirstBy, Prelude.{cond, slice_get}}}

-- lists with equal first elements and equal rests are equal
pub cons_same : {X : Type 0} {x y : X} {xs ys : List X} → x ≡ y → xs ≡ ys → x ∷ xs ≡ y ∷ ys
cons_same {y = y} {xs = xs} e f = ap (λ z. z ∷ xs) e ∙ ap (λ zs. y ∷ zs) f

-- at most as many elements pass a test as there are
pub filter_most : {X : Type 0} (p : X → Bool) (xs : List X) → length (filter p xs) ≤ length xs
filter_most p xs = omega (arith, length-filter p xs, count_by-le-length p xs)

-- the first element that is found is the first of those that pass the test
find_first : {X : Type 0} (p : X → Bool) (xs : List X) → find p xs ≡ slice_get (filter p xs) 0
find_first p [] = refl
find_first p (x ∷ xs) = find_step (p x) (find_first p xs)
  where
    find_step : (b : Bool) → find p xs ≡ slice_get (filter p xs) 0 → cond b (Some x) (find p xs) ≡ slice_get (cond b (x ∷ filter p xs) (filter p xs)) 0
    find_step true e = refl
    find_step false e = e

-- what an iterator over the elements that pass yields next is the first one that is found
pub found_first : {A B : Type 0} (view : A → B) (p : B → Bool) (r : Option A) (ys rest all : List B) → YieldsFirstBy view (λ (s : List B). s) ys r rest
    → ys ≡ filter p all → option_map view r ≡ find p all
found_first view p None ys rest all h e = sym (find_first p all ∙ ap (λ zs. slice_get zs 0) (sym e ∙ h.0))
found_first view p (Some x) ys rest all h e = sym (find_first p all ∙ ap (λ zs. slice_get zs 0) (sym e ∙ h))

-- the same for an iterator over the elements themselves
pub found_itself : {A : Type 0} (p : A → Bool) (r : Option A) (ys rest all : List A) → YieldsFirstBy (λ x. x) (λ (s : List A). s) ys r rest
    → ys ≡ filter p all → r ≡ find p all
found_itself p None ys rest all h e = found_first (λ x. x) p None ys rest all h e
found_itself p (Some x) ys rest all h e = found_first (λ x. x) p (Some x) ys rest all h e
