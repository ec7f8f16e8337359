-- Walks along siblings.
use Rattle.std.proofs.Common.{◌≡◌, ℕ, zero, suc, ◌+◌, ◌-◌, ◌≤◌, ◌<◌, [], ◌∷◌, length, map, Bool, true, false, Option, Some, None, refl, ap, sym, ◌∙◌, arith}
use Rattle.std.proofs.{Common.{inl, inr}, lemmas.{Bool.{cases_lt, Decides.nat_tests}, List.{length-map, Sums.{length-filter, count_by-le-length}}}}
use Rattle.{std.specs.Prelude.{filter, cond}, rnix_green.specs.{Tree.{Tree, Located, items_of, item}, Walk.{spot_at, counted}, Relatives.IsFirst}}
use Rattle.{rnix_green.{specs.Relatives.{IsLast, IsSibling}, proofs.NumberTests.is_same}, rnix_tree.specs.Siblings.{same_parent, is_beside, numbers_below}}
use Rattle.rnix_tree.specs.{Siblings.{siblings_of, siblings_if, IsBeside}, declared.siblings.Direction.{Direction, TheVariants.{Next, Prev}}}
use Rattle.rnix_tree.proofs.{CountLemmas.counted-many, AncestorLemmas.counted_more}

-- equal parents pass the test, and others do not
pub same_passes : (p q : Option ℕ) → p ≡ q → same_parent p q ≡ true
same_passes None None e = refl
same_passes None (Some q) e = absurd (cc)
same_passes (Some p) None e = absurd (cc)
same_passes (Some p) (Some q) e = is_same p q (cc)

pub passes_same : (p q : Option ℕ) → same_parent p q ≡ true → p ≡ q
passes_same None None e = refl
passes_same None (Some q) e = absurd (cc)
passes_same (Some p) None e = absurd (cc)
passes_same (Some p) (Some q) e = ap Some (grind (arith, nat_tests))

-- a test that is not true is false
pub fails : (b : Bool) → ¬ (b ≡ true) → b ≡ false
fails true h = absurd (h refl)
fails false h = refl

-- the numbers that pass a test, upwards and downwards
module _ (Q : ℕ → Bool) where
  none_up : (n k : ℕ) → ((m : ℕ) → n ≤ m → m < n + k → Q m ≡ false) → filter Q (counted n k) ≡ []
  none_up n zero h = refl
  none_up n (suc k) h =
      ap (λ b. cond b (n ∷ filter Q (counted (n + 1) k)) (filter Q (counted (n + 1) k))) (h n (omega arith) (omega arith))
      ∙ none_up (n + 1) k (λ m low high. h m (omega arith) (omega arith))

  skip_up : (d n end : ℕ) → n + d ≤ end → ((m : ℕ) → n ≤ m → m < n + d → Q m ≡ false)
      → filter Q (counted n (end - n)) ≡ filter Q (counted (n + d) (end - (n + d)))
  skip_up zero n end l h = (let same : n ≡ n + 0 = omega arith in ap (λ j. filter Q (counted j (end - j))) same)
  skip_up (suc d) n end l h =
      let rest = filter Q (counted (n + 1) (end - (n + 1))) in
      let same : n + 1 + d ≡ n + suc d = omega arith in
      ap (filter Q) (counted_more n end (omega arith))
      ∙ ap (λ b. cond b (n ∷ rest) rest) (h n (omega arith) (omega arith))
      ∙ skip_up d (n + 1) end (omega arith) (λ m low high. h m (omega arith) (omega arith))
      ∙ ap (λ j. filter Q (counted j (end - j))) same

  meet_up : (n end : ℕ) → n < end → Q n ≡ true → filter Q (counted n (end - n)) ≡ n ∷ filter Q (counted (n + 1) (end - (n + 1)))
  meet_up n end l h =
      let rest = filter Q (counted (n + 1) (end - (n + 1))) in
      ap (filter Q) (counted_more n end l) ∙ ap (λ b. cond b (n ∷ rest) rest) h

  pub none_down : (k : ℕ) → ((m : ℕ) → m < k → Q m ≡ false) → filter Q (numbers_below k) ≡ []
  none_down zero h = refl
  none_down (suc k) h =
      ap (λ b. cond b (k ∷ filter Q (numbers_below k)) (filter Q (numbers_below k))) (h k (omega arith))
      ∙ none_down k (λ m low. h m (omega arith))

  pub skip_down : (k r : ℕ) → r < k → ((m : ℕ) → r < m → m < k → Q m ≡ false) → filter Q (numbers_below k) ≡ filter Q (numbers_below (suc r))
  skip_down zero r l h = absurd (omega arith)
  skip_down (suc k) r l h =
      elim (cases_lt r k) [
        | inl more ↦
            ap (λ b. cond b (k ∷ filter Q (numbers_below k)) (filter Q (numbers_below k))) (h k more (omega arith))
            ∙ skip_down k r more (λ m low high. h m low (omega arith))
        | inr last ↦ (let same : suc k ≡ suc r = omega arith in ap (λ j. filter Q (numbers_below j)) same)
      ]

  pub meet_down : (n : ℕ) → Q n ≡ true → filter Q (numbers_below (suc n)) ≡ n ∷ filter Q (numbers_below n)
  meet_down n h = ap (λ b. cond b (n ∷ filter Q (numbers_below n)) (filter Q (numbers_below n))) h

module _ (t : Tree) (n : ℕ) (l : n < length (items_of t)) where
  abbrev here : Located
  here = record { tree = t; number = n }

  -- an element that is no sibling does not pass the test
  not_beside : (m : ℕ) → m < length (items_of t) → ¬ IsSibling here m → is_beside here m ≡ false
  not_beside m there h =
      fails (is_beside here m) (λ e. h record { is_there = there; parent = passes_same (item t m).parent (item t n).parent e })

  itself : is_beside here n ≡ true
  itself = same_passes (item t n).parent (item t n).parent refl

  -- siblings have the same siblings
  alike : (r : ℕ) → IsSibling here r → is_beside here ≡ is_beside record { tree = t; number = r }
  alike r h = ap (λ p m. same_parent (item t m).parent p) (sym h.parent)

  -- the element and the siblings after it are the element, and those from the next sibling on
  step_next : (next : Option ℕ) → IsFirst (IsSibling here) n next → siblings_of Next here ≡ spot_at t n ∷ siblings_if Next t next
  step_next None h =
      let end = length (items_of t) in
      ap (map (spot_at t)) (meet_up (is_beside here) n end l itself
      ∙ ap (λ xs. n ∷ xs) (none_up (is_beside here) (n + 1) (end - (n + 1)) (λ m low high. not_beside m (omega arith) (h m (omega arith)))))
  step_next (Some r) h =
      let end = length (items_of t) in
      let low = h.0 in
      let there = h.1.is_there in
      let far : n + 1 + (r - (n + 1)) ≡ r = omega arith in
      ap (map (spot_at t)) (meet_up (is_beside here) n end l itself
      ∙ ap (λ xs. n ∷ xs)
      (skip_up (is_beside here) (r - (n + 1)) (n + 1) end (omega arith) (λ m low high. not_beside m (omega arith) (h.2 m (omega arith) (omega arith)))
      ∙ ap (λ j. filter (is_beside here) (counted j (end - j))) far
      ∙ ap (λ Q. filter Q (counted r (end - r))) (alike r h.1)))

  -- the element and the siblings before it are the element, and those from the previous sibling on
  step_prev : (next : Option ℕ) → IsLast (IsSibling here) n next → siblings_of Prev here ≡ spot_at t n ∷ siblings_if Prev t next
  step_prev None h =
      ap (map (spot_at t)) (meet_down (is_beside here) n itself
      ∙ ap (λ xs. n ∷ xs) (none_down (is_beside here) n (λ m low. not_beside m (omega arith) (h m low))))
  step_prev (Some r) h =
      ap (map (spot_at t)) (meet_down (is_beside here) n itself
      ∙ ap (λ xs. n ∷ xs)
      (skip_down (is_beside here) n r h.0 (λ m low high. not_beside m (omega arith) (h.2 m low high))
      ∙ ap (λ Q. filter Q (numbers_below (suc r))) (alike r h.1)))

  -- one step along siblings in either direction
  pub sibling_step : (direction : Direction) (next : Option ℕ) → IsBeside direction here next
      → siblings_of direction here ≡ spot_at t n ∷ siblings_if direction t next
  sibling_step Next next h = step_next next h
  sibling_step Prev next h = step_prev next h

length-numbers_below : (k : ℕ) → length (numbers_below k) ≡ k
length-numbers_below zero = refl
length-numbers_below (suc k) = ap suc (length-numbers_below k)

-- an element has at most as many siblings as the tree has elements
pub siblings_of-few : (direction : Direction) (e : Located) → e.number < length (items_of e.tree) → length (siblings_of direction e) ≤ length (items_of e.tree)
siblings_of-few Next e l =
    let numbers = counted e.number (length (items_of e.tree) - e.number) in
    omega (
      arith,
      length-map (filter (is_beside e) numbers) (spot_at e.tree),
      length-filter (is_beside e) numbers,
      count_by-le-length (is_beside e) numbers,
      counted-many e.number (length (items_of e.tree) - e.number),
    )
siblings_of-few Prev e l =
    let numbers = numbers_below (suc e.number) in
    omega (
      arith,
      length-map (filter (is_beside e) numbers) (spot_at e.tree),
      length-filter (is_beside e) numbers,
      count_by-le-length (is_beside e) numbers,
      length-numbers_below (suc e.number),
    )
