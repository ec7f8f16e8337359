-- The children of an element, with the elements inside them, are no more than the elements inside it.
use Rattle.std.proofs.Common.{◌≡◌, ℕ, suc, ◌+◌, ◌-◌, ◌≤◌, ◌<◌, List, [], ◌∷◌, length, map, true, false, Option, Some, refl, ap, ◌∙◌, arith, inl, inr}
use Rattle.{std.{proofs.lemmas.Bool.cases_lt, specs.Prelude.{if◌then◌else◌, nat_lt}}, rnix_green.specs.Forest.{Forest, empty, leaf, node, text_of}}
use Rattle.rnix_green.specs.{Forest.element_count, Tree.{Tree, Located, Item, items_of, forest_of, item, part_of, children_in}, Walk.{Spot, spot_at, nodes_in}}
use Rattle.rnix_green.{specs.{Walk.children_of, PreorderNumbers.tree_numbers}, proofs.{NumberTests.{is_above, is_not_below}, PartLemmas.{IsPart, IsOne, one_leaf}}}
use Rattle.rnix_green.proofs.{PartLemmas.{one_node, item_of_part, below_of_part, part_there, one_there}, NestLemmas.{at, inside, beyond, behind}}
use Rattle.{rnix_green.proofs.InsideLemmas.elements_in_all, rnix_tree.specs.InsideCounts.{inside_count, nodes_count, spots_count}}

-- the trees of a forest, with the elements inside them, are all its elements
sibling_counts : (t : Tree) (n s : ℕ) (p : Option ℕ) (f : Forest) → ((m i : ℕ) → m ≡ n + i → i < element_count f → (item t m).below ≡ (at n s p f i).below)
    → spots_count (map (spot_at t) (tree_numbers n f)) ≡ element_count f
sibling_counts t n s p empty h = refl
sibling_counts t n s p (leaf k u f) h =
    let first : (item t n).below ≡ 0 = h n 0 (omega arith) (omega arith) in
    omega (arith, first, sibling_counts t (n + 1) (s + length u) p f (λ m i e l. h m (suc i) (omega arith) (omega arith)))
sibling_counts t n s p (node k c f) h =
    let first : (item t n).below ≡ element_count c = h n 0 (omega arith) (omega arith) in
    omega (
      arith,
      first,
      sibling_counts t (n + 1 + element_count c) (s + length (text_of c)) p f
          (λ m i e l. h m (suc (element_count c + i)) (omega arith) (omega arith) ∙ after i l),
    )
  where
    after : (i : ℕ) → i < element_count f → (at n s p (node k c f) (suc (element_count c + i))).below ≡ (at (n + 1 + element_count c)
        (s + length (text_of c)) p f i).below
    after i l = elim (behind n s p k c f (element_count c + i)) as (λ b. (at n s p (node k c f) (suc (element_count c + i))).below ≡ (at
        (n + 1 + element_count c) (s + length (text_of c)) p f i).below) [
          | inside low x ↦ absurd (omega arith)
          | beyond high x ↦
              let same : element_count c + i - element_count c ≡ i = omega arith in
              ap (λ (y : Item). y.below) x ∙ ap (λ j. (at (n + 1 + element_count c) (s + length (text_of c)) p f j).below) same
        ]

-- this holds for the children of an element of a tree
counts_there : (t : Tree) (n : ℕ) → n < length (items_of t) → spots_count (children_of record { tree = t; number = n }) ≡ (item t n).below
counts_there t n l = go _ (part_there t n l) (one_there t n l)
  where
    go : (part : Forest) → IsPart 0 n part (items_of t) → IsOne part
        → spots_count (map (spot_at t) (tree_numbers (n + 1) (children_in part))) ≡ (item t n).below
    go _ h (one_leaf k u) =
        let none : suc 0 ≡ suc (item t n).below = below_of_part t n (leaf k u empty) h (one_leaf k u) in
        omega arith
    go _ h (one_node k c) =
        let all : suc (element_count c + 0) ≡ suc (item t n).below = below_of_part t n (node k c empty) h (one_node k c) in
        let siblings = sibling_counts t (n + 1) h.start (Some n) c (λ m i e l. within k c h m i e l) in
        omega (arith, siblings)
      where
        within : (k : _) (c : Forest) (h : IsPart 0 n (node k c empty) (items_of t)) (m i : ℕ) → m ≡ n + 1 + i → i < element_count c
            → (item t m).below ≡ (at (n + 1) h.start (Some n) c i).below
        within k c h m i e l =
            let step : m - n ≡ suc i = omega arith in
            ap (λ (x : Item). x.below) (item_of_part t n m (node k c empty) h (omega arith) (omega arith)
            ∙ ap (λ j. at n h.start h.parent (node k c empty) j) step)
            ∙ elim (behind n h.start h.parent k c empty i) as (λ b. (at n h.start h.parent (node k c empty) (suc i)).below ≡ (at (n + 1) h.start
            (Some n) c i).below) [
              | inside less x ↦ ap (λ (y : Item). y.below) x
              | beyond more x ↦ absurd (omega arith)
            ]

-- the part of an element that is not in the forest is empty
no_part : (m n : ℕ) (f : Forest) → n + element_count f ≤ m → part_of m n f ≡ empty
no_part m n empty l = refl
no_part m n (leaf k t f) l =
    ap (λ b. if b then leaf k t empty else part_of m (n + 1) f) (is_above m n (omega arith)) ∙ no_part m (n + 1) f (omega arith)
no_part m n (node k c f) l =
    let inner = part_of m (n + 1) c in
    let outer = part_of m (n + 1 + element_count c) f in
    ap (λ b. if b then node k c empty else (if nat_lt m (n + 1 + element_count c) then inner else outer)) (is_above m n (omega arith))
    ∙ ap (λ b. if b then inner else outer) (is_not_below m (n + 1 + element_count c) (omega arith))
    ∙ no_part m (n + 1 + element_count c) f (omega arith)

-- the children of an element, with the elements inside them, are no more than the elements inside it
pub children_fit : (e : Located) → spots_count (children_of e) ≤ inside_count e
children_fit e =
    elim (cases_lt e.number (length (items_of e.tree))) [
      | inl there ↦ omega (arith, counts_there e.tree e.number there)
      | inr absent ↦
          let none : children_of e ≡ [] =
          ap (λ f. map (spot_at e.tree) (tree_numbers (e.number + 1) (children_in f)))
          (no_part e.number 0 (forest_of e.tree) (omega (arith, elements_in_all e.tree))) in
          let zero : spots_count (children_of e) ≡ 0 = ap spots_count none in
          omega (arith, zero)
    ]

-- the nodes among some elements, with the elements inside them, are no more than these elements with theirs
nodes_fit : (spots : List Spot) → nodes_count (nodes_in spots) ≤ spots_count spots
nodes_fit [] = omega arith
nodes_fit (spot ∷ spots) =
    elim spot.0 as (λ b. nodes_count (if b then spot.1 ∷ nodes_in spots else nodes_in spots) ≤ spots_count (spot ∷ spots)) [
      | true ↦ omega (arith, nodes_fit spots)
      | false ↦ omega (arith, nodes_fit spots)
    ]

-- the children that are nodes, with the elements inside them, are no more than the elements inside the parent
pub child_nodes_fit : (e : Located) → nodes_count (nodes_in (children_of e)) ≤ inside_count e
child_nodes_fit e = omega (arith, children_fit e, nodes_fit (children_of e))
