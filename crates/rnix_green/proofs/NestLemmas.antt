-- How the elements of a tree are inside one another, by their numbers.
use Rattle.std.proofs.Common.{◌≡◌, ℕ, zero, suc, ◌+◌, ◌-◌, ◌≤◌, ◌<◌, length, get_or, Option, Some, None, refl, ap, sym, subst, ◌∙◌, arith, ◌⊎◌, inl, inr}
use Rattle.std.proofs.lemmas.{Bool.cases_lt, Option.same_Some, List.{get_or_append_left, get_or-append_right}}
use Rattle.{rnix_kinds.specs.declared.kinds.SyntaxKind.SyntaxKind, rnix_green.specs.{Forest.{Forest, empty, leaf, node, text_of, element_count}, Tree.Item}}
use Rattle.rnix_green.{specs.Tree.{items_from, no_item}, proofs.PieceLemmas.length-items_from}

-- the item with an index in a forest
abbrev pub at : ℕ → ℕ → Option ℕ → Forest → ℕ → Item
at n s p f i = get_or (items_from n s p f) i no_item

-- an element after a node's first one is inside the node or after it
pub data Behind (n s : ℕ) (p : Option ℕ) (k : SyntaxKind) (c f : Forest) (i : ℕ) : Type 0 where
  inside : i < element_count c → at n s p (node k c f) (suc i) ≡ at (n + 1) s (Some n) c i → Behind n s p k c f i
  beyond : element_count c ≤ i → at n s p (node k c f) (suc i) ≡ at (n + 1 + element_count c) (s + length (text_of c)) p f (i - element_count c)
      → Behind n s p k c f i

-- this holds for each index
pub behind : (n s : ℕ) (p : Option ℕ) (k : SyntaxKind) (c f : Forest) (i : ℕ) → Behind n s p k c f i
behind n s p k c f i =
    let xs = items_from (n + 1) s (Some n) c in
    let ys = items_from (n + 1 + element_count c) (s + length (text_of c)) p f in
    let count : length xs ≡ element_count c = length-items_from (n + 1) s (Some n) c in
    elim (cases_lt i (element_count c)) [
      | inl low ↦ inside low (get_or_append_left xs ys no_item i (omega arith))
      | inr high ↦ beyond high (get_or-append_right xs ys (element_count c) i no_item count high)
    ]

-- the first element of a forest has the forest's parent
pub first_parent : (n s : ℕ) (p : Option ℕ) (f : Forest) → 0 < element_count f → (at n s p f 0).parent ≡ p
first_parent n s p empty l = absurd (omega arith)
first_parent n s p (leaf k t f) l = refl
first_parent n s p (node k c f) l = refl

-- the parent is the forest's, or one of its elements
pub data Parented (n : ℕ) (p parent : Option ℕ) : Type 0 where
  of_row : parent ≡ p → Parented n p parent
  of_node : (q : ℕ) → parent ≡ Some q → n ≤ q → Parented n p parent

later_parented : (n m : ℕ) (p parent : Option ℕ) → n ≤ m → Parented m p parent → Parented n p parent
later_parented n m p parent l (of_row e) = of_row e
later_parented n m p parent l (of_node q e low) = of_node q e (omega arith)

inner_parented : (n m : ℕ) (p parent : Option ℕ) → n ≤ m → Parented m (Some n) parent → Parented n p parent
inner_parented n m p parent l (of_row e) = of_node n e (omega arith)
inner_parented n m p parent l (of_node q e low) = of_node q e (omega arith)

-- this holds for each element of a forest
pub parented : (n s : ℕ) (p : Option ℕ) (f : Forest) (i : ℕ) → i < element_count f → Parented n p (at n s p f i).parent
parented n s p empty i l = absurd (omega arith)
parented n s p (leaf k t f) zero l = of_row refl
parented n s p (leaf k t f) (suc i) l = later_parented n (n + 1) p _ (omega arith) (parented (n + 1) (s + length t) p f i (omega arith))
parented n s p (node k c f) zero l = of_row refl
parented n s p (node k c f) (suc i) l = elim (behind n s p k c f i) as (λ b. Parented n p (at n s p (node k c f) (suc i)).parent) [
  | inside low e ↦
      subst (λ (x : Item). Parented n p x.parent) (sym e) (inner_parented n (n + 1) p _ (omega arith) (parented (n + 1) s (Some n) c i low))
  | beyond high e ↦
      subst (λ (x : Item). Parented n p x.parent) (sym e)
      (later_parented n (n + 1 + element_count c) p _ (omega arith) (parented (n + 1 + element_count c) (s + length (text_of c)) p f (i - element_count c)
      (omega arith)))
]

-- the forest's parent, if there is one, has a smaller number than the forest
abbrev pub IsOutside : ℕ → Option ℕ → Type 0
IsOutside n None = Unit {0}
IsOutside n (Some q) = q < n

outside_later : (n m : ℕ) (p : Option ℕ) → n ≤ m → IsOutside n p → IsOutside m p
outside_later n m None l h = tt
outside_later n m (Some q) l h = omega arith

not_inside : (n m : ℕ) (p parent : Option ℕ) → n < m → IsOutside n p → parent ≡ p → Parented m (Some n) parent → ⊥
not_inside n m None parent l h same (of_row e) = cc
not_inside n m (Some q) parent l h same (of_row e) = (let eq : q ≡ n = same_Some q n (sym same ∙ e) in omega arith)
not_inside n m None parent l h same (of_node r e low) = cc
not_inside n m (Some q) parent l h same (of_node r e low) = (let eq : q ≡ r = same_Some q r (sym same ∙ e) in omega arith)

-- the element after an element and everything inside it has the same parent, if that is the forest's
pub next_parent : (n s : ℕ) (p : Option ℕ) (f : Forest) (i j : ℕ) → IsOutside n p → (at n s p f i).parent ≡ p → j ≡ i + 1 + (at n s p f i).below
    → j < element_count f
    → (at n s p f j).parent ≡ p
next_parent n s p empty i j out e is l = absurd (omega arith)
next_parent n s p (leaf k t f) i zero out e is l = refl
next_parent n s p (leaf k t f) zero (suc j) out e is l =
    let first : j ≡ 0 = omega arith in
    subst (λ x. (at (n + 1) (s + length t) p f x).parent ≡ p) (sym first) (first_parent (n + 1) (s + length t) p f (omega arith))
next_parent n s p (leaf k t f) (suc i) (suc j) out e is l =
    next_parent (n + 1) (s + length t) p f i j (outside_later n (n + 1) p (omega arith) out) e (omega arith) (omega arith)
next_parent n s p (node k c f) i zero out e is l = refl
next_parent n s p (node k c f) zero (suc j) out e is l =
    elim (behind n s p k c f j) as (λ b. (at n s p (node k c f) (suc j)).parent ≡ p) [
      | inside low x ↦ absurd (omega arith)
      | beyond high x ↦
          let first : j - element_count c ≡ 0 = omega arith in
          ap (λ (y : Item). y.parent) x
          ∙ subst (λ z. (at (n + 1 + element_count c) (s + length (text_of c)) p f z).parent ≡ p) (sym first)
          (first_parent (n + 1 + element_count c) (s + length (text_of c)) p f (omega arith))
    ]
next_parent n s p (node k c f) (suc i) (suc j) out e is l =
    elim (behind n s p k c f i) as (λ b. (at n s p (node k c f) (suc j)).parent ≡ p) [
      | inside low x ↦
          absurd (not_inside n (n + 1) p _ (omega arith) out (sym (ap (λ (y : Item). y.parent) x) ∙ e) (parented (n + 1) s (Some n) c i low))
      | beyond high x ↦
          elim (behind n s p k c f j) as (λ b. (at n s p (node k c f) (suc j)).parent ≡ p) [
            | inside low y ↦ absurd (omega (arith, ap (λ (z : Item). z.below) x))
            | beyond more y ↦
                ap (λ (z : Item). z.parent) y
                ∙ next_parent (n + 1 + element_count c) (s + length (text_of c)) p f (i - element_count c) (j - element_count c)
                (outside_later n (n + 1 + element_count c) p (omega arith) out) (sym (ap (λ (z : Item). z.parent) x) ∙ e)
                (omega (arith, ap (λ (z : Item). z.below) x)) (omega arith)
          ]
    ]

-- an element is inside its parent `q`
pub record IsOver (n i q : ℕ) (p : Option ℕ) (s : ℕ) (f : Forest) : Type 0 where
  pub low : n ≤ q
  pub high : q < n + i
  pub over : n + i ≤ q + (at n s p f (q - n)).below

-- this holds for each element with a parent in the forest
pub parent_over : (n s : ℕ) (p : Option ℕ) (f : Forest) (i q : ℕ) → i < element_count f → (at n s p f i).parent ≡ Some q → (p ≡ Some q) ⊎ IsOver n i q p s f
parent_over n s p empty i q l e = absurd (omega arith)
parent_over n s p (leaf k t f) zero q l e = inl e
parent_over n s p (leaf k t f) (suc i) q l e =
    elim (parent_over (n + 1) (s + length t) p f i q (omega arith) e) [
      | inl h ↦ inl h
      | inr h ↦
          let step : q - n ≡ suc (q - (n + 1)) = omega (arith, h.low) in
          inr (record {
            low = omega (arith, h.low);
            high = omega (arith, h.high);
            over = omega (arith, h.over, ap (λ x. (at n s p (leaf k t f) x).below) step);
          })
    ]
parent_over n s p (node k c f) zero q l e = inl e
parent_over n s p (node k c f) (suc i) q l e =
    elim (behind n s p k c f i) as (λ b. (p ≡ Some q) ⊎ IsOver n (suc i) q p s (node k c f)) [
      | inside low x ↦
          elim (parent_over (n + 1) s (Some n) c i q low (sym (ap (λ (y : Item). y.parent) x) ∙ e)) [
            | inl h ↦
                let same : n ≡ q = same_Some n q h in
                let none : q - n ≡ 0 = omega arith in
                inr (record {
                  low = omega arith;
                  high = omega arith;
                  over = omega (arith, ap (λ z. (at n s p (node k c f) z).below) none);
                })
            | inr h ↦ inr (deeper n s p k c f i q low h)
          ]
      | beyond high x ↦
          elim (parent_over (n + 1 + element_count c) (s + length (text_of c)) p f (i - element_count c) q (omega arith)
          (sym (ap (λ (y : Item). y.parent) x) ∙ e)) [
            | inl h ↦ inl h
            | inr h ↦ inr (further n s p k c f i q high h)
          ]
    ]
  where
    deeper : (n s : ℕ) (p : Option ℕ) (k : SyntaxKind) (c f : Forest) (i q : ℕ) → i < element_count c → IsOver (n + 1) i q (Some n) s c
        → IsOver n (suc i) q p s (node k c f)
    deeper n s p k c f i q low h =
        let step : q - n ≡ suc (q - (n + 1)) = omega (arith, h.low) in
        let at_node = ap (λ z. (at n s p (node k c f) z).below) step in
        elim (behind n s p k c f (q - (n + 1))) as (λ b. IsOver n (suc i) q p s (node k c f)) [
          | inside less y ↦ record {
            low = omega (arith, h.low);
            high = omega (arith, h.high);
            over = omega (arith, h.over, at_node, ap (λ (z : Item). z.below) y);
          }
          | beyond more y ↦ absurd (omega (arith, h.high, h.low))
        ]

    further : (n s : ℕ) (p : Option ℕ) (k : SyntaxKind) (c f : Forest) (i q : ℕ) → element_count c ≤ i
        → IsOver (n + 1 + element_count c) (i - element_count c) q p (s + length (text_of c)) f → IsOver n (suc i) q p s (node k c f)
    further n s p k c f i q high h =
        let step : q - n ≡ suc (q - (n + 1)) = omega (arith, h.low) in
        let at_node = ap (λ z. (at n s p (node k c f) z).below) step in
        let same : q - (n + 1) - element_count c ≡ q - (n + 1 + element_count c) = omega arith in
        elim (behind n s p k c f (q - (n + 1))) as (λ b. IsOver n (suc i) q p s (node k c f)) [
          | inside less y ↦ absurd (omega (arith, h.low))
          | beyond more y ↦ record {
            low = omega (arith, h.low);
            high = omega (arith, h.high);
            over = omega (
              arith,
              h.over,
              at_node,
              ap (λ (z : Item). z.below) y,
              ap
                  (λ z. (at (n + 1 + element_count c) (s + length (text_of c)) p f z).below) same,
            );
          }
        ]
