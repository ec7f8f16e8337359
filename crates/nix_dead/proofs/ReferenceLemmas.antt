-- References and bindings, one after another.
use Rattle.std.proofs.Common.{◌≡◌, ℕ, zero, suc, ◌+◌, ◌<◌, ◌≤◌, ◌==◌, Bool, true, false, Some, None, List, [], ◌∷◌, ◌++◌, length, drop, get_or, ap, sym, ◌∙◌, append_assoc, arith, refl, inl, inr}
use Rattle.std.proofs.lemmas.{Bool.{cond-true, cond-false, cases_lt, Decides.nat_tests}, List.drop_more, Option.{none-some, slice_get_within, get_or_from_slice_get}}
use Rattle.std.specs.{Prelude.{slice_get, Option, ◌&&◌}}
use Rattle.nix_scopes.specs.declared.resolution.{Binding.Binding, Reference.Reference}
use Rattle.nix_dead.specs.declared.removal.Removal.{Removal}
use Rattle.nix_dead.specs.{Removal.start_at, KeptReferences.{is_removed, moved_numbers, same_reference, is_next_alike, is_nothing, are_alike}}

-- the rest of a list from an index on begins with the element at the index
remaining : {A : Type 0} (xs : List A) (n : ℕ) (x : A) → n < length xs → x ≡ get_or xs n x → drop n xs ≡ x ∷ drop (n + 1) xs
remaining xs n x l is = drop_more xs n x l ∙ ap (λ z. z ∷ drop (n + 1) xs) (sym is)

-- the same, for an element that was found
found : {A : Type 0} (xs : List A) (n : ℕ) (x : A) → slice_get xs n ≡ Some x → drop n xs ≡ x ∷ drop (n + 1) xs
found xs n x is = remaining xs n x (slice_get_within xs n x is) (sym (get_or_from_slice_get xs n x x is))

-- if there is no element at an index, nothing remains from there on
none_remains : {A : Type 0} (xs : List A) (n : ℕ) → slice_get xs n ≡ None → drop n xs ≡ []
none_remains [] zero is = refl
none_remains [] (suc n) is = refl
none_remains (y ∷ xs) zero is = absurd (none-some y (sym is))
none_remains (y ∷ xs) (suc n) is = none_remains xs n is

ended : {A : Type 0} (xs : List A) (n : ℕ) → length xs ≤ n → drop n xs ≡ []
ended [] zero l = refl
ended [] (suc n) l = refl
ended (y ∷ xs) zero l = absurd (omega (arith, l))
ended (y ∷ xs) (suc n) l = ended xs n (omega (arith, l))

module _ (removals : List Removal) (bindings : List Binding) (i count : ℕ) (x : Binding) (numbers all : List (Option ℕ)) (within : i < length bindings)
    (is : x ≡ get_or bindings i x) (so_far : numbers ++ moved_numbers removals count (drop i bindings) ≡ all) where
  -- the next binding is removed
  pub number_gone : is_removed removals (start_at x.node) ≡ true → (numbers ++ None ∷ []) ++ moved_numbers removals count (drop (i + 1) bindings) ≡ all
  number_gone gone =
      append_assoc numbers (None ∷ []) (moved_numbers removals count (drop (i + 1) bindings))
      ∙ ap (λ ns. numbers ++ ns) (sym (cond-true (is_removed removals (start_at x.node)) (None ∷ moved_numbers removals count (drop (i + 1) bindings))
      (Some count ∷ moved_numbers removals (count + 1) (drop (i + 1) bindings)) gone))
      ∙ ap (λ bs. numbers ++ moved_numbers removals count bs) (sym (remaining bindings i x within is)) ∙ so_far

  -- the next binding is left
  pub number_left : is_removed removals (start_at x.node) ≡ false →
      (numbers ++ Some count ∷ []) ++ moved_numbers removals (count + 1) (drop (i + 1) bindings) ≡ all
  number_left left =
      append_assoc numbers (Some count ∷ []) (moved_numbers removals (count + 1) (drop (i + 1) bindings))
      ∙ ap (λ ns. numbers ++ ns) (sym (cond-false (is_removed removals (start_at x.node)) (None ∷ moved_numbers removals count (drop (i + 1) bindings))
      (Some count ∷ moved_numbers removals (count + 1) (drop (i + 1) bindings)) left))
      ∙ ap (λ bs. numbers ++ moved_numbers removals count bs) (sym (remaining bindings i x within is)) ∙ so_far

-- no binding follows
pub numbers_done : (removals : List Removal) (bindings : List Binding) (i count : ℕ) (numbers all : List (Option ℕ)) → length bindings ≤ i →
    numbers ++ moved_numbers removals count (drop i bindings) ≡ all → numbers ++ [] ≡ all
numbers_done removals bindings i count numbers all past so_far =
    ap (λ bs. numbers ++ moved_numbers removals count bs) (sym (ended bindings i past)) ∙ so_far

module _ (removals : List Removal) (numbers : List (Option ℕ)) (olds news : List Reference) (i next : ℕ) (x : Reference) (all : Bool)
    (within : i < length olds) (is : x ≡ get_or olds i x) (so_far : are_alike removals numbers (drop i olds) (drop next news) ≡ all) where
  first : are_alike removals numbers (x ∷ drop (i + 1) olds) (drop next news) ≡ all
  first = ap (λ rs. are_alike removals numbers rs (drop next news)) (sym (remaining olds i x within is)) ∙ so_far

  -- the next reference is removed
  pub one_removed : is_removed removals (start_at x.node) ≡ true → are_alike removals numbers (drop (i + 1) olds) (drop next news) ≡ all
  one_removed gone =
      sym (cond-true (is_removed removals (start_at x.node)) (are_alike removals numbers (drop (i + 1) olds) (drop next news))
      (is_next_alike numbers x (are_alike removals numbers (drop (i + 1) olds)) (drop next news)) gone) ∙ first

  is_left : is_removed removals (start_at x.node) ≡ false →
      is_next_alike numbers x (are_alike removals numbers (drop (i + 1) olds)) (drop next news) ≡ all
  is_left left =
      sym (cond-false (is_removed removals (start_at x.node)) (are_alike removals numbers (drop (i + 1) olds) (drop next news))
      (is_next_alike numbers x (are_alike removals numbers (drop (i + 1) olds)) (drop next news)) left) ∙ first

  -- nothing remains of the other list
  pub none_left : is_removed removals (start_at x.node) ≡ false → slice_get news next ≡ None → false ≡ all
  none_left left none =
      ap (is_next_alike numbers x (are_alike removals numbers (drop (i + 1) olds))) (sym (none_remains news next none)) ∙ is_left left

  compared : (y : Reference) → is_removed removals (start_at x.node) ≡ false → slice_get news next ≡ Some y →
      (same_reference numbers x y && are_alike removals numbers (drop (i + 1) olds) (drop (next + 1) news)) ≡ all
  compared y left at =
      ap (is_next_alike numbers x (are_alike removals numbers (drop (i + 1) olds))) (sym (found news next y at)) ∙ is_left left

  -- the next reference is another one
  pub one_differs : (y : Reference) → is_removed removals (start_at x.node) ≡ false → slice_get news next ≡ Some y → same_reference numbers x y ≡ false →
      false ≡ all
  one_differs y left at differs =
      ap (λ b. b && are_alike removals numbers (drop (i + 1) olds) (drop (next + 1) news)) (sym differs) ∙ compared y left at

  -- the next reference is alike
  pub one_alike : (y : Reference) → is_removed removals (start_at x.node) ≡ false → slice_get news next ≡ Some y → same_reference numbers x y ≡ true →
      are_alike removals numbers (drop (i + 1) olds) (drop (next + 1) news) ≡ all
  one_alike y left at alike =
      ap (λ b. b && are_alike removals numbers (drop (i + 1) olds) (drop (next + 1) news)) (sym alike) ∙ compared y left at

-- something remains unless all were passed
something_remains : (news : List Reference) (next : ℕ) → next < length news → is_nothing (drop next news) ≡ false
something_remains [] next l = absurd (omega (arith, l))
something_remains (y ∷ news) zero l = refl
something_remains (y ∷ news) (suc n) l = something_remains news n (omega (arith, l))

nothing_remains : (news : List Reference) (next : ℕ) → next ≤ length news → (next == length news) ≡ is_nothing (drop next news)
nothing_remains news next few = elim (cases_lt next (length news)) [
  | inl less ↦ (let differs : (next == length news) ≡ false = grind (arith, nat_tests, less) in differs ∙ sym (something_remains news next less))
  | inr more ↦ (let same : (next == length news) ≡ true = grind (arith, nat_tests, more, few) in same ∙ ap is_nothing (sym (ended news next more)))
]

-- all references were passed
pub all_passed : (removals : List Removal) (numbers : List (Option ℕ)) (olds news : List Reference) (i next : ℕ) (all : Bool) → length olds ≤ i →
    next ≤ length news → are_alike removals numbers (drop i olds) (drop next news) ≡ all → (next == length news) ≡ all
all_passed removals numbers olds news i next all past few so_far =
    nothing_remains news next few ∙ ap (λ rs. are_alike removals numbers rs (drop next news)) (sym (ended olds i past)) ∙ so_far
