-- What is inside an element of a tree, and what is around it.
use Rattle.std.proofs.Common.{◌≡◌, ℕ, zero, suc, ◌+◌, ◌-◌, ◌≤◌, ◌<◌, length, Option, Some, None, true, false, refl, ap, sym, ◌∙◌, arith, inl, inr}
use Rattle.rnix_green.specs.{Forest.{Forest, empty, leaf, node, text_of, element_count}, Tree.{Tree, Item, items_of, forest_of, item}}
use Rattle.rnix_green.proofs.{PieceLemmas.length-items_from, SiblingLemmas.below_fits, PartLemmas.{IsPart, IsOne, one_leaf, one_node, item_of_part}}
use Rattle.rnix_green.proofs.{PartLemmas.{below_of_part, part_there, one_there}, NestLemmas.{at, inside, beyond, behind, first_parent, Parented, of_row}}
use Rattle.rnix_green.proofs.NestLemmas.{of_node, parented, next_parent, parent_over}

-- the number of a tree's elements
pub elements_in_all : (t : Tree) → length (items_of t) ≡ element_count (forest_of t)
elements_in_all t = length-items_from 0 0 None (forest_of t)

-- the elements inside element `a` are a forest of their own
pub record Inner (t : Tree) (a : ℕ) : Type 0 where
  pub children : Forest
  pub start : ℕ
  pub count : element_count children ≡ (item t a).below
  pub items : (m : ℕ) → a < m → m ≤ a + (item t a).below → item t m ≡ at (a + 1) start (Some a) children (m - (a + 1))
  pub begins : (item t a).is_node ≡ true → (item t a).start ≡ start
  pub ends : (item t a).is_node ≡ true → (item t a).end ≡ start + length (text_of children)

-- this holds for each element of a tree
pub inner_of : (t : Tree) (a : ℕ) → a < length (items_of t) → Inner t a
inner_of t a l = go _ (part_there t a l) (one_there t a l)
  where
    go : (part : Forest) → IsPart 0 a part (items_of t) → IsOne part → Inner t a
    go _ h (one_leaf k u) =
        let none : suc 0 ≡ suc (item t a).below = below_of_part t a (leaf k u empty) h (one_leaf k u) in
        let d : a - a ≡ 0 = omega arith in
        let own = item_of_part t a a (leaf k u empty) h (omega arith) (omega arith) ∙ ap (λ i. at a h.start h.parent (leaf k u empty) i) d in
        let token : (item t a).is_node ≡ false = ap (λ (i : Item). i.is_node) own in
        record {
          children = empty;
          start = 0;
          count = omega arith;
          items = λ m low high. absurd (omega arith);
          begins = λ e. absurd (let x = sym token ∙ e in cc);
          ends = λ e. absurd (let x = sym token ∙ e in cc);
        }
    go _ h (one_node k c) =
        let all : suc (element_count c + 0) ≡ suc (item t a).below = below_of_part t a (node k c empty) h (one_node k c) in
        let d : a - a ≡ 0 = omega arith in
        let own = item_of_part t a a (node k c empty) h (omega arith) (omega arith) ∙ ap (λ i. at a h.start h.parent (node k c empty) i) d in
        record {
          begins = λ e. ap (λ (i : Item). i.start) own;
          ends = λ e. ap (λ (i : Item). i.end) own;
          children = c;
          start = h.start;
          count = omega arith;
          items = λ m low high.
              let step : m - a ≡ suc (m - (a + 1)) = omega arith in
              item_of_part t a m (node k c empty) h (omega arith) (omega arith)
              ∙ ap (λ i. at a h.start h.parent (node k c empty) i) step
              ∙ elim (behind a h.start h.parent k c empty (m - (a + 1))) as (λ b. at a h.start h.parent (node k c empty) (suc (m - (a + 1))) ≡ at
              (a + 1) h.start (Some a) c (m - (a + 1))) [
                | inside less e ↦ e
                | beyond more e ↦ absurd (omega arith)
              ];
        }

-- an element inside `a` has a parent that is `a` or inside `a`
pub record IsHeld (t : Tree) (a m : ℕ) : Type 0 where
  pub parent : ℕ
  pub is : (item t m).parent ≡ Some parent
  pub low : a ≤ parent

held_by : (t : Tree) (a m : ℕ) (parent : Option ℕ) → (item t m).parent ≡ parent → Parented (a + 1) (Some a) parent → IsHeld t a m
held_by t a m parent is (of_row e) = record { parent = a; is = is ∙ e; low = omega arith }
held_by t a m parent is (of_node q e low) = record { parent = q; is = is ∙ e; low = omega arith }

-- this holds for each element inside `a`
pub held : (t : Tree) (a m : ℕ) → a < length (items_of t) → a < m → m ≤ a + (item t a).below → IsHeld t a m
held t a m l low high =
    let inner = inner_of t a l in
    held_by t a m _ (ap (λ (i : Item). i.parent) (inner.items m low high))
    (parented (a + 1) inner.start (Some a) inner.children (m - (a + 1)) (omega (arith, inner.count)))

-- an element inside `a` ends where `a` ends or before
pub ends_inside : (t : Tree) (a m : ℕ) → a < length (items_of t) → a < m → m ≤ a + (item t a).below → m + (item t m).below ≤ a + (item t a).below
ends_inside t a m l low high =
    let inner = inner_of t a l in
    omega (
      arith,
      inner.count,
      ap (λ (i : Item). i.below) (inner.items m low high),
      below_fits (a + 1) inner.start (Some a) inner.children (m - (a + 1))
          (omega (arith, inner.count)),
    )

-- the first element inside `a` is a child of `a`
pub first_child_of : (t : Tree) (a : ℕ) → a < length (items_of t) → 0 < (item t a).below → (item t (a + 1)).parent ≡ Some a
first_child_of t a l some =
    let inner = inner_of t a l in
    let none : a + 1 - (a + 1) ≡ 0 = omega arith in
    ap (λ (i : Item). i.parent) (inner.items (a + 1) (omega arith) (omega arith))
    ∙ ap (λ i. (at (a + 1) inner.start (Some a) inner.children i).parent) none
    ∙ first_parent (a + 1) inner.start (Some a) inner.children (omega (arith, inner.count))

-- an element is inside its parent `q`
pub record IsBelow (t : Tree) (q m : ℕ) : Type 0 where
  pub low : q < m
  pub high : m ≤ q + (item t q).below

-- each element with a parent is inside it
pub below_parent : (t : Tree) (m q : ℕ) → m < length (items_of t) → (item t m).parent ≡ Some q → IsBelow t q m
below_parent t m q l e =
    elim (parent_over 0 0 None (forest_of t) m q (omega (arith, elements_in_all t)) e) [
      | inl h ↦ absurd (cc)
      | inr h ↦
          let same : q - 0 ≡ q = omega arith in
          let over = h.over in
          record { low = omega (arith, h.high); high = omega (arith, over, ap (λ i. (item t i).below) same) }
    ]

-- the element after an element and everything inside it has the same parent, if the parent contains it
pub sibling_behind : (t : Tree) (m p : ℕ) → m < length (items_of t) → (item t m).parent ≡ Some p → m + 1 + (item t m).below ≤ p + (item t p).below
    → (item t (m + 1 + (item t m).below)).parent ≡ Some p
sibling_behind t m p l e fits =
    let below = below_parent t m p l e in
    let inner = inner_of t p (omega (arith, below.low)) in
    let here = inner.items m below.low below.high in
    let next = inner.items (m + 1 + (item t m).below) (omega (arith, below.low)) fits in
    ap (λ (i : Item). i.parent) next
    ∙ next_parent (p + 1) inner.start (Some p) inner.children (m - (p + 1)) (m + 1 + (item t m).below - (p + 1)) (omega arith)
    (sym (ap (λ (i : Item). i.parent) here) ∙ e) (omega (arith, below.low, ap (λ (i : Item). i.below) here)) (omega (arith, inner.count, below.low))

-- all other elements are inside the root
pub root_holds : (t : Tree) → length (items_of t) ≡ suc (item t 0).below
root_holds t = (let all = elements_in_all t in omega arith)

-- each element but the root has a parent
pub has_parent : (t : Tree) (m : ℕ) → 0 < m → m < length (items_of t) → IsHeld t 0 m
has_parent t m some l = held t 0 m (omega arith) some (omega (arith, root_holds t))

-- no element is inside a leaf of a forest
pub holds_nothing : (n s : ℕ) (p : Option ℕ) (f : Forest) (i : ℕ) → i < element_count f → (at n s p f i).is_node ≡ false → (at n s p f i).below ≡ 0
holds_nothing n s p empty i l e = absurd (omega arith)
holds_nothing n s p (leaf k t f) zero l e = refl
holds_nothing n s p (leaf k t f) (suc i) l e = holds_nothing (n + 1) (s + length t) p f i (omega arith) e
holds_nothing n s p (node k c f) zero l e = absurd (cc)
holds_nothing n s p (node k c f) (suc i) l e = elim (behind n s p k c f i) as (λ b. (at n s p (node k c f) (suc i)).below ≡ 0) [
  | inside low x ↦
      ap (λ (y : Item). y.below) x ∙ holds_nothing (n + 1) s (Some n) c i low (sym (ap (λ (y : Item). y.is_node) x) ∙ e)
  | beyond high x ↦
      ap (λ (y : Item). y.below) x
      ∙ holds_nothing (n + 1 + element_count c) (s + length (text_of c)) p f (i - element_count c) (omega arith) (sym (ap (λ (y : Item). y.is_node) x) ∙ e)
]

-- no element is inside a token of a tree
pub leaf_holds_nothing : (t : Tree) (m : ℕ) → m < length (items_of t) → (item t m).is_node ≡ false → (item t m).below ≡ 0
leaf_holds_nothing t m l e = holds_nothing 0 0 None (forest_of t) m (omega (arith, elements_in_all t)) e
