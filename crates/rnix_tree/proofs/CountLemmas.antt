-- How long the lists of walks are.
use Rattle.std.proofs.Common.{◌≡◌, ℕ, zero, suc, ◌+◌, ◌≤◌, ◌<◌, nat_lt, List, [], ◌∷◌, length, map, true, false, refl, ap, arith, length-append}
use Rattle.{std.{proofs.lemmas.List.length-map, specs.Prelude.if◌then◌else◌}, rnix_green.specs.{Forest.{Forest, empty, leaf, node, element_count}, Tree.Tree}}
use Rattle.rnix_green.specs.{Tree.{Located, items_of, item, part_at, children_in}, Walk.{Spot, Event, spot_at, event_at, children_of, steps_from, preorder_of}}
use Rattle.rnix_green.{specs.{Walk.{counted, nodes_in, node_events, holders, ancestors_of}, PreorderNumbers.tree_numbers}, proofs.PartLemmas.{IsPart, IsOne, one_leaf}}
use Rattle.rnix_green.proofs.PartLemmas.{one_node, below_of_part, part_there, one_there}

tree_numbers-few : (n : ℕ) (f : Forest) → length (tree_numbers n f) ≤ element_count f
tree_numbers-few n empty = omega arith
tree_numbers-few n (leaf k t f) = omega (arith, tree_numbers-few (n + 1) f)
tree_numbers-few n (node k c f) = omega (arith, tree_numbers-few (n + 1 + element_count c) f)

steps_from-twice : (n : ℕ) (f : Forest) → length (steps_from n f) ≡ element_count f + element_count f
steps_from-twice n empty = refl
steps_from-twice n (leaf k t f) = omega (arith, steps_from-twice (n + 1) f)
steps_from-twice n (node k c f) =
    omega (
      arith,
      steps_from-twice (n + 1) c,
      steps_from-twice (n + 1 + element_count c) f,
      length-append (steps_from (n + 1) c) ((false, n) ∷ steps_from (n + 1 + element_count c) f),
    )

-- there are at most as many nodes as elements
pub nodes_in-few : (spots : List Spot) → length (nodes_in spots) ≤ length spots
nodes_in-few [] = omega arith
nodes_in-few (spot ∷ spots) =
    elim spot.0 as (λ b. length (if b then spot.1 ∷ nodes_in spots else nodes_in spots) ≤ length (spot ∷ spots)) [
      | true ↦ omega (arith, nodes_in-few spots)
      | false ↦ omega (arith, nodes_in-few spots)
    ]

-- there are at most as many events of nodes as events
pub node_events-few : (events : List Event) → length (node_events events) ≤ length events
node_events-few [] = omega arith
node_events-few (event ∷ events) =
    elim event.1.0 as (λ b. length (if b then (event.0, event.1.1) ∷ node_events events else node_events events) ≤ length (event ∷ events)) [
      | true ↦ omega (arith, node_events-few events)
      | false ↦ omega (arith, node_events-few events)
    ]

holders-few : (t : Tree) (n k : ℕ) → length (holders t n k) ≤ k
holders-few t n zero = omega arith
holders-few t n (suc k) =
    elim (nat_lt (k + (item t k).below) n) as (λ b. length (if b then holders t n k else record { tree = t; number = k } ∷ holders t n k) ≤ suc k) [
      | true ↦ omega (arith, holders-few t n k)
      | false ↦ omega (arith, holders-few t n k)
    ]

-- `k` numbers from `n` on are `k`
pub counted-many : (n k : ℕ) → length (counted n k) ≡ k
counted-many n zero = refl
counted-many n (suc k) = ap suc (counted-many (n + 1) k)

-- an element has at most as many ancestors as elements up to it
pub ancestors_of-few : (e : Located) → length (ancestors_of e) ≤ e.number + 1
ancestors_of-few e = holders-few e.tree e.number (e.number + 1)

-- a walk has two events for each element
pub preorder_of-twice : (t : Tree) (n : ℕ) → n < length (items_of t)
    → length (preorder_of record { tree = t; number = n }) ≡ (1 + (item t n).below) + (1 + (item t n).below)
preorder_of-twice t n l =
    let part = part_at record { tree = t; number = n } in
    let all = below_of_part t n part (part_there t n l) (one_there t n l) in
    omega (arith, length-map (steps_from n part) (event_at t), steps_from-twice n part, all)

-- an element has at most as many children as elements inside it
pub children_of-few : (t : Tree) (n : ℕ) → n < length (items_of t) → length (children_of record { tree = t; number = n }) ≤ (item t n).below
children_of-few t n l = go _ (part_there t n l) (one_there t n l)
  where
    go : (part : Forest) → IsPart 0 n part (items_of t) → IsOne part → length (map (spot_at t) (tree_numbers (n + 1) (children_in part))) ≤ (item t n).below
    go _ h (one_leaf k u) = omega arith
    go _ h (one_node k c) =
        let all : suc (element_count c + 0) ≡ suc (item t n).below = below_of_part t n (node k c empty) h (one_node k c) in
        omega (arith, length-map (tree_numbers (n + 1) c) (spot_at t), tree_numbers-few (n + 1) c)
