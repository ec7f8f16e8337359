-- An element's parent is a node before it.
use Rattle.std.proofs.Common.{◌≡◌, ℕ, zero, suc, ◌+◌, ◌-◌, ◌≤◌, ◌<◌, List, ◌∷◌, ◌++◌, length, get_or, Option, Some, None, true, ap, sym, ◌∙◌, arith, ◌⊎◌, inl}
use Rattle.std.proofs.{Common.inr, lemmas.{Bool.cases_lt, List.{get_or_append_left, get_or-append_right}, Grind.{get_or_tail, get_or_head}}}
use Rattle.rnix_green.specs.{Forest.{Forest, empty, leaf, node, text_of, element_count}, Tree.{Tree, Item, items_from, items_of, forest_of, no_item, item}}
use Rattle.rnix_green.{specs.Tree.IsNodeAt, proofs.PieceLemmas.length-items_from}

-- `q` is the number of a node among the elements from number `n` on, before position `m`
pub record IsNodeBefore (n m q : ℕ) (is : List Item) : Type 0 where
  pub low : n ≤ q
  pub high : q < n + m
  pub is_node : (get_or is (q - n) no_item).is_node ≡ true

after_one : (n m q : ℕ) (i : Item) (is : List Item) → IsNodeBefore (n + 1) m q is → IsNodeBefore n (suc m) q (i ∷ is)
after_one n m q i is h =
    let low : n + 1 ≤ q = h.low in
    let same : q - n - 1 ≡ q - (n + 1) = omega arith in
    let tail : get_or (i ∷ is) (q - n) no_item ≡ get_or is (q - n - 1) no_item = get_or_tail i is (q - n) no_item (omega arith) in
    record {
      low = omega arith;
      high = omega (arith, h.high);
      is_node = ap (λ x. x.is_node) (tail ∙ ap (λ k. get_or is k no_item) same) ∙ h.is_node;
    }

in_remaining : (n m q : ℕ) (xs ys : List Item) → m ≤ length xs → IsNodeBefore n m q xs → IsNodeBefore n m q (xs ++ ys)
in_remaining n m q xs ys l h = record {
  low = h.low;
  high = h.high;
  is_node = ap (λ x. x.is_node) (get_or_append_left xs ys no_item (q - n) (omega (arith, h.low, h.high))) ∙ h.is_node;
}

in_right : (n m q j : ℕ) (xs ys : List Item) → length xs ≡ j → j ≤ m → IsNodeBefore (n + j) (m - j) q ys → IsNodeBefore n m q (xs ++ ys)
in_right n m q j xs ys e l h =
    let same : q - n - j ≡ q - (n + j) = omega arith in
    record {
      low = omega (arith, h.low);
      high = omega (arith, h.high);
      is_node =
          ap (λ x. x.is_node) (get_or-append_right xs ys j (q - n) no_item e (omega (arith, h.low)) ∙ ap (λ k. get_or ys k no_item) same) ∙ h.is_node;
    }

-- the parent of an element is the forest's, or a node before the element
pub parent_of : (n s : ℕ) (p : Option ℕ) (f : Forest) (m q : ℕ) → m < element_count f → (get_or (items_from n s p f) m no_item).parent ≡ Some q →
    (p ≡ Some q) ⊎ IsNodeBefore n m q (items_from n s p f)
parent_of n s p empty m q l e = absurd (omega arith)
parent_of n s p (leaf k t f) zero q l e = inl e
parent_of n s p (leaf k t f) (suc m) q l e =
    elim (parent_of (n + 1) (s + length t) p f m q (omega arith) e) [ inl h ↦ inl h | inr h ↦ inr (after_one n m q _ _ h) ]
parent_of n s p (node k c f) zero q l e = inl e
parent_of n s p (node k c f) (suc m) q l e =
    let xs = items_from (n + 1) s (Some n) c in
    let ys = items_from (n + 1 + element_count c) (s + length (text_of c)) p f in
    let count : length xs ≡ element_count c = length-items_from (n + 1) s (Some n) c in
    elim (cases_lt m (element_count c)) [
      | inl low ↦
          let e' : (get_or xs m no_item).parent ≡ Some q = sym (ap (λ x. x.parent) (get_or_append_left xs ys no_item m (omega arith))) ∙ e in
          elim (parent_of (n + 1) s (Some n) c m q low e') [
            | inl h ↦
                let same : n ≡ q = cc in
                let first : q - n ≡ 0 = omega arith in
                inr record {
                  low = omega arith;
                  high = omega arith;
                  is_node = ap (λ x. x.is_node) (get_or_head _ (xs ++ ys) (q - n) no_item first);
                }
            | inr h ↦ inr (after_one n m q _ (xs ++ ys) (in_remaining (n + 1) m q xs ys (omega arith) h))
          ]
      | inr high ↦
          let e' : (get_or ys (m - element_count c) no_item).parent ≡ Some q =
          sym (ap (λ x. x.parent) (get_or-append_right xs ys (element_count c) m no_item count high)) ∙ e in
          elim (parent_of (n + 1 + element_count c) (s + length (text_of c)) p f (m - element_count c) q (omega arith) e') [
            | inl h ↦ inl h
            | inr h ↦ inr (after_one n m q _ (xs ++ ys) (in_right (n + 1) m q (element_count c) xs ys count high h))
          ]
    ]

-- each parent is a node
pub parent_is_node : (t : Tree) (m q : ℕ) → m < length (items_of t) → (item t m).parent ≡ Some q → IsNodeAt record { tree = t; number = q }
parent_is_node t m q l e =
    let count : length (items_of t) ≡ element_count (forest_of t) = length-items_from 0 0 None (forest_of t) in
    elim (parent_of 0 0 None (forest_of t) m q (omega arith) e) [
      | inl h ↦ absurd (cc)
      | inr h ↦
          let same : q ≡ q - 0 = omega arith in
          record { is_there = omega (arith, h.high); is_node = ap (λ k. (get_or (items_of t) k no_item).is_node) same ∙ h.is_node }
    ]

-- a parent comes before its children
pub parent_is_before : (t : Tree) (m q : ℕ) → m < length (items_of t) → (item t m).parent ≡ Some q → q < m
parent_is_before t m q l e =
    let count : length (items_of t) ≡ element_count (forest_of t) = length-items_from 0 0 None (forest_of t) in
    elim (parent_of 0 0 None (forest_of t) m q (omega arith) e) [ inl h ↦ absurd (cc) | inr h ↦ omega (arith, h.high) ]
