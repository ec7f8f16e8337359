-- Two lists that are compared element by element, leaving out some elements of the first.
use Rattle.std.proofs.Common.{◌≡◌, ℕ, zero, suc, ◌+◌, ◌<◌, ◌≤◌, Bool, true, false, Some, None, List, [], ◌∷◌, length, drop, get_or, ap, sym, subst, ◌∙◌, arith, refl}
use Rattle.std.proofs.lemmas.{Bool.{cond-true, cond-false}, List.drop_more, Option.{none-some, slice_get_within, get_or_from_slice_get}}
use Rattle.std.specs.{Prelude.{filter, slice_get}, List.AllZip}

-- the rests of both lists from these indices on match exactly if the lists do
pub record RestDecides {A B : Type 0} (R : A → B → Type 0) (p : A → Bool) (xs : List A) (ys : List B) (n m : ℕ) : Type 0 where
  pub there : AllZip R (filter p (drop n xs)) (drop m ys) → AllZip R (filter p xs) ys
  pub back : AllZip R (filter p xs) ys → AllZip R (filter p (drop n xs)) (drop m ys)

-- the rest of a list from an index on begins with the element at the index
remaining_from : {A : Type 0} (xs : List A) (n : ℕ) (x : A) → n < length xs → x ≡ get_or xs n x → drop n xs ≡ x ∷ drop (n + 1) xs
remaining_from xs n x l is = drop_more xs n x l ∙ ap (λ z. z ∷ drop (n + 1) xs) (sym is)

-- the same, for an element that was found
remaining_from_some : {A : Type 0} (xs : List A) (n : ℕ) (x : A) → slice_get xs n ≡ Some x → drop n xs ≡ x ∷ drop (n + 1) xs
remaining_from_some xs n x is = remaining_from xs n x (slice_get_within xs n x is) (sym (get_or_from_slice_get xs n x x is))

-- if there is no element at an index, nothing remains from there on
none_remaining : {A : Type 0} (xs : List A) (n : ℕ) → slice_get xs n ≡ None → drop n xs ≡ []
none_remaining [] zero is = refl
none_remaining [] (suc n) is = refl
none_remaining (y ∷ xs) zero is = absurd (none-some y (sym is))
none_remaining (y ∷ xs) (suc n) is = none_remaining xs n is

module _ {A B : Type 0} (R : A → B → Type 0) (p : A → Bool) (xs : List A) (ys : List B) (n m : ℕ) (x : A) (there : n < length xs)
    (is : x ≡ get_or xs n x) (h : RestDecides R p xs ys n m) where
  remaining : drop n xs ≡ x ∷ drop (n + 1) xs
  remaining = remaining_from xs n x there is

  -- the next element is left out
  pub one_left_out : p x ≡ false → RestDecides R p xs ys (n + 1) m
  one_left_out fails =
      let same : filter p (drop n xs) ≡ filter p (drop (n + 1) xs) =
      ap (filter p) remaining ∙ cond-false (p x) (x ∷ filter p (drop (n + 1) xs)) (filter p (drop (n + 1) xs)) fails in
      record {
        there = λ all. h.there (subst (λ zs. AllZip R zs (drop m ys)) (sym same) all);
        back = λ all. subst (λ zs. AllZip R zs (drop m ys)) same (h.back all);
      }

  kept : p x ≡ true → filter p (drop n xs) ≡ x ∷ filter p (drop (n + 1) xs)
  kept passes = ap (filter p) remaining ∙ cond-true (p x) (x ∷ filter p (drop (n + 1) xs)) (filter p (drop (n + 1) xs)) passes

  -- the next element matches
  pub one_alike : (y : B) → p x ≡ true → slice_get ys m ≡ Some y → R x y → RestDecides R p xs ys (n + 1) (m + 1)
  one_alike y passes at alike = record {
    there = λ all. h.there (subst (λ zs. AllZip R zs (drop m ys)) (sym (kept passes))
        (subst (λ zs. AllZip R (x ∷ filter p (drop (n + 1) xs)) zs) (sym (remaining_from_some ys m y at)) (alike, all)));
    back = λ all. (subst (λ zs. AllZip R (x ∷ filter p (drop (n + 1) xs)) zs) (remaining_from_some ys m y at)
        (subst (λ zs. AllZip R zs (drop m ys)) (kept passes) (h.back all))).1;
  }

  -- the next element does not match
  pub one_unlike : (y : B) → p x ≡ true → slice_get ys m ≡ Some y → ¬ R x y → ¬ AllZip R (filter p xs) ys
  one_unlike y passes at difference = λ all.
      difference (subst (λ zs. AllZip R (x ∷ filter p (drop (n + 1) xs)) zs) (remaining_from_some ys m y at)
      (subst (λ zs. AllZip R zs (drop m ys)) (kept passes) (h.back all))).0

  -- nothing remains of the other list
  pub one_more : p x ≡ true → slice_get ys m ≡ None → ¬ AllZip R (filter p xs) ys
  one_more passes none = λ all.
      subst (λ zs. AllZip R (x ∷ filter p (drop (n + 1) xs)) zs) (none_remaining ys m none)
      (subst (λ zs. AllZip R zs (drop m ys)) (kept passes) (h.back all))

-- nothing remains of the first list
module _ {A B : Type 0} (R : A → B → Type 0) (p : A → Bool) (xs : List A) (ys : List B) (n m : ℕ) (past : length xs ≤ n)
    (h : RestDecides R p xs ys n m) where
  ended : {X : Type 0} (xs : List X) (n : ℕ) → length xs ≤ n → drop n xs ≡ []
  ended [] zero l = refl
  ended [] (suc n) l = refl
  ended (y ∷ xs) zero l = absurd (omega (arith, l))
  ended (y ∷ xs) (suc n) l = ended xs n (omega (arith, l))

  -- nothing remains of the other list either
  pub both_ended : slice_get ys m ≡ None → AllZip R (filter p xs) ys
  both_ended none =
      h.there (subst (λ zs. AllZip R (filter p zs) (drop m ys)) (sym (ended xs n past)) (subst (λ zs. AllZip R [] zs) (sym (none_remaining ys m none)) tt))

  -- something remains of the other list
  pub first_ended : (y : B) → slice_get ys m ≡ Some y → ¬ AllZip R (filter p xs) ys
  first_ended y at = λ all.
      subst (λ zs. AllZip R [] zs) (remaining_from_some ys m y at) (subst (λ zs. AllZip R (filter p zs) (drop m ys)) (ended xs n past) (h.back all))
