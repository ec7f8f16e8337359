-- The steps of a walk over siblings.
use Rattle.std.proofs.Common.{◌≡◌, ℕ, zero, suc, ◌+◌, ◌-◌, ◌≤◌, ◌<◌, List, [], ◌∷◌, ◌++◌, length, drop, get_or, Option, Some, None, refl, ap, sym, ◌∙◌, arith}
use Rattle.std.proofs.{Common.{inl, inr, append_assoc}, lemmas.{Bool.cases_lt, List.{drop_more, drop_at, drop-drop, get_or_append_left, get_or-append_right}}}
use Rattle.rnix_green.specs.{Forest.{Forest, empty, leaf, node, text_of, element_count}, Tree.{Tree, Item, items_from, items_of, forest_of, no_item, item}}
use Rattle.rnix_green.{specs.PreorderNumbers.{tree_numbers, passed_over, siblings_between}, proofs.PieceLemmas.length-items_from}

passed_nothing : (n k room : ℕ) → passed_over n k room [] ≡ []
passed_nothing n zero zero = refl
passed_nothing n zero (suc room) = refl
passed_nothing n (suc k) zero = refl
passed_nothing n (suc k) (suc room) = refl

-- skipping `k` elements
passed : (n k room : ℕ) (is : List Item) → passed_over n k room is ≡ passed_over (n + k) 0 (room - k) (drop k is)
passed n zero room is =
    let a : n ≡ n + 0 = omega arith in
    let b : room ≡ room - 0 = omega arith in
    ap (λ m. passed_over m 0 room is) a ∙ ap (λ m. passed_over (n + 0) 0 m is) b
passed n (suc k) room [] = passed_nothing n (suc k) room ∙ sym (passed_nothing (n + suc k) 0 (room - suc k))
passed n (suc k) room (i ∷ is) =
    let a : n + 1 + k ≡ n + suc k = omega arith in
    let b : room - 1 - k ≡ room - suc k = omega arith in
    passed (n + 1) k (room - 1) is ∙ ap (λ m. passed_over m 0 (room - 1 - k) (drop k is)) a ∙ ap (λ m. passed_over (n + suc k) 0 m (drop k is)) b

-- one step to the next sibling
pub next_sibling : (is : List Item) (n end below : ℕ) → n < end → end ≤ length is → below ≡ (get_or is n no_item).below →
    siblings_between is n end ≡ n ∷ siblings_between is (n + 1 + below) end
next_sibling is n end below l h e =
    let remaining : end - n ≡ suc (end - n - 1) = omega arith in
    let rest : end - n - 1 - below ≡ end - (n + 1 + below) = omega arith in
    let later = drop (n + 1) is in
    ap (λ xs. passed_over n 0 (end - n) xs) (drop_more is n no_item (omega arith))
    ∙ ap (λ m. passed_over n 0 m (get_or is n no_item ∷ later)) remaining
    ∙ ap (λ b. n ∷ passed_over (n + 1) b (end - n - 1) later) (sym e)
    ∙ ap (λ x. n ∷ x) (passed (n + 1) below (end - n - 1) later
    ∙ ap (λ m. passed_over (n + 1 + below) 0 m (drop below later)) rest
    ∙ ap (λ xs. passed_over (n + 1 + below) 0 (end - (n + 1 + below)) xs) (drop-drop below (n + 1) is))

passed_at_zero : (n : ℕ) (is : List Item) → passed_over n 0 0 is ≡ []
passed_at_zero n [] = refl
passed_at_zero n (i ∷ is) = refl

-- no sibling is left at the end
pub no_sibling : (is : List Item) (n end : ℕ) → end ≤ n → siblings_between is n end ≡ []
no_sibling is n end l =
    let none : end - n ≡ 0 = omega arith in
    ap (λ m. passed_over n 0 m (drop n is)) none ∙ passed_at_zero n (drop n is)

-- the elements inside one are within the forest
pub below_fits : (n s : ℕ) (p : Option ℕ) (f : Forest) (m : ℕ) → m < element_count f → m + 1 + (get_or (items_from n s p f) m no_item).below ≤ element_count f
below_fits n s p empty m l = absurd (omega arith)
below_fits n s p (leaf k t f) zero l = omega arith
below_fits n s p (leaf k t f) (suc m) l = omega (arith, below_fits (n + 1) (s + length t) p f m (omega arith))
below_fits n s p (node k c f) zero l = omega arith
below_fits n s p (node k c f) (suc m) l =
    let xs = items_from (n + 1) s (Some n) c in
    let ys = items_from (n + 1 + element_count c) (s + length (text_of c)) p f in
    let count : length xs ≡ element_count c = length-items_from (n + 1) s (Some n) c in
    elim (cases_lt m (element_count c)) [
      | inl low ↦
          omega (arith, below_fits (n + 1) s (Some n) c m low, ap (λ i. i.below) (get_or_append_left xs ys no_item m (omega arith)))
      | inr high ↦
          omega (
            arith,
            below_fits (n + 1 + element_count c) (s + length (text_of c)) p f (m - element_count c) (omega arith),
            ap (λ i. i.below) (get_or-append_right xs ys (element_count c) m no_item count high),
          )
    ]

-- the elements inside one are within the tree
pub next_inside : (t : Tree) (m : ℕ) → m < length (items_of t) → m + 1 + (item t m).below ≤ length (items_of t)
next_inside t m l =
    let count : length (items_of t) ≡ element_count (forest_of t) = length-items_from 0 0 None (forest_of t) in
    omega (arith, below_fits 0 0 None (forest_of t) m (omega arith))

-- the siblings of a forest's first element are its trees
pub passed_trees : (n s : ℕ) (p : Option ℕ) (f : Forest) (rest : List Item) → passed_over n 0 (element_count f) (items_from n s p f ++ rest) ≡ tree_numbers n f
passed_trees n s p empty rest = passed_at_zero n rest
passed_trees n s p (leaf k u f) rest = ap (λ x. n ∷ x) (passed_trees (n + 1) (s + length u) p f rest)
passed_trees n s p (node k c f) rest =
    let xs = items_from (n + 1) s (Some n) c in
    let ys = items_from (n + 1 + element_count c) (s + length (text_of c)) p f in
    let remaining : element_count c + element_count f - element_count c ≡ element_count f = omega arith in
    ap (λ x. n ∷ x)
    (passed (n + 1) (element_count c) (element_count c + element_count f) ((xs ++ ys) ++ rest)
    ∙ ap (λ l. passed_over (n + 1 + element_count c) 0 l (drop (element_count c) ((xs ++ ys) ++ rest))) remaining
    ∙ ap (λ is. passed_over (n + 1 + element_count c) 0 (element_count f) (drop (element_count c) is)) (append_assoc xs ys rest)
    ∙ ap (λ is. passed_over (n + 1 + element_count c) 0 (element_count f) is)
    (drop_at xs (ys ++ rest) (element_count c) (length-items_from (n + 1) s (Some n) c))
    ∙ passed_trees (n + 1 + element_count c) (s + length (text_of c)) p f rest)
