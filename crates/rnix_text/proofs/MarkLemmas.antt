-- A test of marks that every mark before a passing one passes.
use Rattle.std.proofs.Common.{◌≡◌, ℕ, zero, suc, ◌-◌, ◌≤◌, ◌<◌, ◌⊎◌, inl, inr, List, [], ◌∷◌, length, get_or, Bool, true, false, refl, ap, sym, ◌∙◌, subst}
use Rattle.std.{proofs.{Common.arith, lemmas.Bool.{false_from_ne_true, both_ways}}, specs.{Prelude.if◌then◌else◌, List.Sorted.IsPartitionedBy}}
use Rattle.{std.specs.List.Sorted.IsPartitionPoint, rnix_text.specs.{declared.line_column.{ColumnUnit.ColumnUnit, Mark.Mark}, Marks.{is_plain, first_mark}}}
use Rattle.rnix_text.specs.Marks.{mark_after, marks_after, marks_of, last_of}

found : (test : Mark → Bool) (xs : List Mark) (m : Mark) (r : ℕ) (d : Mark) → test m ≡ true → r ≤ length (m ∷ xs)
    → IsPartitionPoint (λ y. test y ≡ true) (λ y. test y ≡ false) (m ∷ xs) r → (0 < r) × (get_or (m ∷ xs) (r - 1) d ≡ last_of test m xs)
found test xs m zero d h bound point = absurd (both_ways (test m) (point.1 0 d (omega arith) (omega arith)) h)
found test [] m (suc zero) d h bound point = (omega arith, refl)
found test [] m (suc (suc r)) d h bound point = absurd (omega (arith, bound))
found test (x ∷ xs) m (suc zero) d h bound point = (omega arith, sym (ap (λ w. if w then last_of test x xs else m) (point.1 1 d (omega arith) (omega arith))))
found test (x ∷ xs) m (suc (suc r)) d h bound point =
    let passes : test x ≡ true = point.0 1 d (omega arith) (omega arith) in
    let more = found test xs x (suc r) d passes (omega (arith, bound))
    (λ k e a b. point.0 (suc k) e (omega arith) (omega (arith, b)), λ k e a b. point.1 (suc k) e (omega (arith, a)) (omega (arith, b))) in
    let next : suc (suc r) - 1 ≡ suc (suc r - 1) = omega arith in
    (omega arith, ap (λ k. get_or (m ∷ x ∷ xs) k d) next ∙ more.1 ∙ sym (ap (λ w. if w then last_of test x xs else m) passes))

-- of two first marks, both are the last that passes, or the same later mark is
pub last_alike : (test : Mark → Bool) (m n : Mark) (xs : List Mark)
    → ((last_of test m xs ≡ m) × (last_of test n xs ≡ n)) ⊎ (last_of test m xs ≡ last_of test n xs)
last_alike test m n [] = inl (refl, refl)
last_alike test m n (x ∷ xs) =
    elim (test x) as (λ w. (((if w then last_of test x xs else m) ≡ m) × ((if w then last_of test x xs else n) ≡ n)) ⊎
    ((if w then last_of test x xs else m) ≡ (if w then last_of test x xs else n))) [
      | true ↦ inr refl
      | false ↦ inl (refl, refl)
    ]

module _ (unit : ColumnUnit) (test : Mark → Bool) (back : (m : Mark) (b : ℕ) → test (mark_after unit m b) ≡ true → test m ≡ true) where
  next_fails : (m : Mark) (b : ℕ) → test m ≡ false → test (mark_after unit m b) ≡ false
  next_fails m b f = false_from_ne_true (test (mark_after unit m b)) (λ t. both_ways (test m) f (back m b t))

  -- no mark after one that fails passes
  pub none_after : (bs : List ℕ) (m x : Mark) → test m ≡ false → last_of test x (marks_after unit m bs) ≡ x
  none_after [] m x f = refl
  none_after (b ∷ bs) m x f =
      let next = mark_after unit m b in
      let fails = next_fails m b f in
      elim (is_plain unit b) as (λ w. last_of test x (if w then marks_after unit next bs else next ∷ marks_after unit next bs) ≡ x) [
        | true ↦ none_after bs next x fails
        | false ↦ ap (λ w. if w then last_of test next (marks_after unit next bs) else x) fails
      ]

  -- if the next position fails, a mark is the last that passes
  pub last_here : (bs : List ℕ) (b : ℕ) (m : Mark) → test (mark_after unit m b) ≡ false → last_of test m (marks_after unit m (b ∷ bs)) ≡ m
  last_here bs b m fails =
      let next = mark_after unit m b in
      elim (is_plain unit b) as (λ w. last_of test m (if w then marks_after unit next bs else next ∷ marks_after unit next bs) ≡ m) [
        | true ↦ none_after bs next m fails
        | false ↦ ap (λ w. if w then last_of test next (marks_after unit next bs) else m) fails
      ]

  at_first : (bs : List ℕ) (m : Mark) (j : ℕ) (d : Mark) → j < length (m ∷ marks_after unit m bs) → test (get_or (m ∷ marks_after unit m bs) j d) ≡ true
      → test m ≡ true
  at_first bs m zero d l h = h
  at_first [] m (suc j) d l h = absurd (omega (arith, l))
  at_first (b ∷ bs) m (suc j) d l h = plain_cases (is_plain unit b) (at_first bs (mark_after unit m b)) l h
    where
      next : Mark
      next = mark_after unit m b

      rest : List Mark
      rest = marks_after unit next bs

      plain_cases : (w : Bool) → ((i : ℕ) (d : Mark) → i < length (next ∷ rest) → test (get_or (next ∷ rest) i d) ≡ true → test next ≡ true)
          → suc j < length (m ∷ (if w then rest else next ∷ rest)) → test (get_or (m ∷ (if w then rest else next ∷ rest)) (suc j) d) ≡ true → test m ≡ true
      plain_cases true more l h = back m b (more (suc j) d l h)
      plain_cases false more l h = back m b (more j d (omega (arith, l)) h)

  -- the marks are partitioned by the test
  pub parted : (bs : List ℕ) (m : Mark) → IsPartitionedBy test (m ∷ marks_after unit m bs)
  parted bs m zero j d le l h = at_first bs m j d l h
  parted bs m (suc i) zero d le l h = absurd (omega (arith, le))
  parted [] m (suc i) (suc j) d le l h = absurd (omega (arith, l))
  parted (b ∷ bs) m (suc i) (suc j) d le l h = plain_cases (is_plain unit b) (parted bs (mark_after unit m b)) l h
    where
      next : Mark
      next = mark_after unit m b

      rest : List Mark
      rest = marks_after unit next bs

      plain_cases : (w : Bool) → IsPartitionedBy test (next ∷ rest)
          → suc j < length (m ∷ (if w then rest else next ∷ rest)) → test (get_or (m ∷ (if w then rest else next ∷ rest)) (suc j) d) ≡ true
          → test (get_or (m ∷ (if w then rest else next ∷ rest)) (suc i) d) ≡ true
      plain_cases true more l h = more (suc i) (suc j) d le l h
      plain_cases false more l h = more i j d (omega (arith, le)) (omega (arith, l)) h

  -- the last mark of a text that passes is found where they are partitioned
  pub last_in : (text : List ℕ) (items : List Mark) (r : ℕ) → items ≡ marks_of unit text → test first_mark ≡ true → r ≤ length items
      → (IsPartitionedBy test items → IsPartitionPoint (λ y. test y ≡ true) (λ y. test y ≡ false) items r) → (d : Mark)
      → (0 < r) × (get_or items (r - 1) d ≡ last_of test first_mark (marks_after unit first_mark text))
  last_in text items r e h bound point d =
      let rest = marks_after unit first_mark text in
      let parting = point (subst (IsPartitionedBy test) (sym e) (parted text first_mark)) in
      let rest_found = found test rest first_mark r d h (subst (λ xs. r ≤ length xs) e bound)
      (subst (λ xs. IsPartitionPoint (λ y. test y ≡ true) (λ y. test y ≡ false) xs r) e parting) in
      (rest_found.0, ap (λ xs. get_or xs (r - 1) d) e ∙ rest_found.1)
