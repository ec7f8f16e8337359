-- A walk enters a node before it leaves it.
use Rattle.std.proofs.Common.{◌≡◌, ℕ, zero, suc, ◌+◌, ◌≤◌, inl, inr, length, List, [], ◌∷◌, ◌++◌, map, Bool, true, false, refl, ap, sym, subst, ◌∙◌, arith, append_assoc}
use Rattle.std.proofs.lemmas.{List.{append-nil, map-append, get_or_past}, List.Folds.list_any-append, Bool.cases_lt}
use Rattle.std.specs.{Prelude.{◌&&◌, ◌||◌, if◌then◌else◌}, List.list_any}
use Rattle.rnix_green.specs.{Forest.{Forest, empty, leaf, node, element_count}, Tree.{Tree, Item, Located, items_of, item_of, no_item, part_at}}
use Rattle.rnix_green.specs.Walk.{Spot, Event, spot_at, event_at, steps_from, preorder_of, counted, nodes_in}
use Rattle.rnix_green.proofs.PartLemmas.{below_of_part, part_there, one_there}
use Rattle.rnix_edit.specs.declared.node_range.NodeRange.{NodeRange}
use Rattle.rnix_edit.specs.Steps.{is_at, has_node, leaves, events_inside, events_after, is_exited}

-- if the node is left, it was entered before
pub record IsPassed (target : NodeRange) (events : List Event) : Type 0 where
  pub after : events_after target events ≡ events_after target (events_inside target events)
  pub remaining : is_exited target events ≡ is_exited target (events_inside target events)

-- whether a spot is the node with the range
abbrev is_there : NodeRange → Spot → Bool
is_there target spot = spot.0 && is_at target spot.1

-- this holds if another event that enters an element comes first
passed_enter : (target : NodeRange) (spot : Spot) (rest : List Event) → (is_there target spot ≡ false → IsPassed target rest) →
    IsPassed target ((true, spot) ∷ rest)
passed_enter target spot rest later = record {
  after =
      elim (is_there target spot) as (λ b. is_there target spot ≡ b →
      events_after target rest ≡ events_after target (if b then rest else events_inside target rest)) [
        | true ↦ λ e. refl
        | false ↦ λ e. (later e).after
      ] refl;
  remaining =
      elim (is_there target spot) as (λ b. is_there target spot ≡ b → is_exited target rest
      ≡ is_exited target (if b then rest else events_inside target rest)) [
        | true ↦ λ e. refl
        | false ↦ λ e. (later e).remaining
      ] refl;
}

-- this holds if an event that leaves another element comes first
passed_leave : (target : NodeRange) (spot : Spot) (rest : List Event) → is_there target spot ≡ false → IsPassed target rest
    → IsPassed target ((false, spot) ∷ rest)
passed_leave target spot rest other later = record {
  after = ap (λ b. if b then rest else events_after target rest) other ∙ later.after;
  remaining = ap (λ b. b || is_exited target rest) other ∙ later.remaining;
}

-- this holds if the events of a forest come first
passed_row : (target : NodeRange) (t : Tree) (n : ℕ) (f : Forest) (rest : List Event) → IsPassed target rest →
    IsPassed target (map (event_at t) (steps_from n f) ++ rest)
passed_row target t n empty rest later = later
passed_row target t n (leaf k x f) rest later =
    passed_enter target (spot_at t n) _ (λ other. passed_leave target (spot_at t n) _ other (passed_row target t (n + 1) f rest later))
passed_row target t n (node k c f) rest later =
    let inner = map (event_at t) (steps_from (n + 1) c) in
    let outer = map (event_at t) (steps_from (n + 1 + element_count c) f) in
    subst (λ es. IsPassed target ((true, spot_at t n) ∷ es))
    (sym
    (ap (λ es. es ++ rest) (map-append (event_at t) (steps_from (n + 1) c) ((false, n) ∷ steps_from (n + 1 + element_count c) f))
    ∙ append_assoc inner ((false, spot_at t n) ∷ outer) rest))
    (passed_enter target (spot_at t n) (inner ++ ((false, spot_at t n) ∷ (outer ++ rest)))
    (λ other. passed_row target t (n + 1) c ((false, spot_at t n) ∷ (outer ++ rest))
    (passed_leave target (spot_at t n) (outer ++ rest) other (passed_row target t (n + 1 + element_count c) f rest later))))

-- this holds in a walk over an element
pub passed : (target : NodeRange) (root : Located) → IsPassed target (preorder_of root)
passed target root =
    subst (IsPassed target) (append-nil (preorder_of root))
    (passed_row target root.tree root.number (part_at root) [] record { after = refl; remaining = refl })

-- whether some spot in a list is the node
any_node : (target : NodeRange) (spot : Spot) (spots : List Spot) →
    list_any (is_at target) (nodes_in (spot ∷ spots)) ≡ (is_there target spot || list_any (is_at target) (nodes_in spots))
any_node target spot spots =
    elim spot.0 as (λ b. list_any (is_at target) (if b then spot.1 ∷ nodes_in spots else nodes_in spots)
    ≡ ((b && is_at target spot.1) || list_any (is_at target) (nodes_in spots))) [
      | true ↦ refl
      | false ↦ refl
    ]

-- the same for two joined lists of spots
any_nodes : (target : NodeRange) (xs ys : List Spot) →
    list_any (is_at target) (nodes_in (xs ++ ys)) ≡ (list_any (is_at target) (nodes_in xs) || list_any (is_at target) (nodes_in ys))
any_nodes target [] ys = refl
any_nodes target (x ∷ xs) ys =
    let all = any_node target x (xs ++ ys) ∙ ap (λ b. is_there target x || b) (any_nodes target xs ys) in
    all ∙ or_assoc (is_there target x) _ _ ∙ ap (λ b. b || list_any (is_at target) (nodes_in ys)) (sym (any_node target x xs))
  where
    or_assoc : (a b c : Bool) → (a || (b || c)) ≡ ((a || b) || c)
    or_assoc true b c = refl
    or_assoc false b c = refl

-- `a + b` numbers are the first `a` and the next `b`
counted_both : (n a b : ℕ) → counted n (a + b) ≡ counted n a ++ counted (n + a) b
counted_both n zero b =
    let same : b ≡ 0 + b = omega arith in
    let from : n ≡ n + 0 = omega arith in
    ap (counted n) (sym same) ∙ ap (λ m. counted m b) from
counted_both n (suc a) b =
    let count : suc a + b ≡ suc (a + b) = omega arith in
    let from : n + 1 + a ≡ n + suc a = omega arith in
    ap (counted n) count ∙ ap (λ ns. n ∷ ns) (counted_both (n + 1) a b ∙ ap (λ m. counted (n + 1) a ++ counted m b) from)

-- a walk over a forest leaves the node exactly if it is one of the forest's elements
exited_siblings : (target : NodeRange) (t : Tree) (n : ℕ) (f : Forest) →
    is_exited target (map (event_at t) (steps_from n f)) ≡ list_any (is_at target) (nodes_in (map (spot_at t) (counted n (element_count f))))
exited_siblings target t n empty = refl
exited_siblings target t n (leaf k x f) =
    ap (λ b. is_there target (spot_at t n) || b) (exited_siblings target t (n + 1) f)
    ∙ sym (any_node target (spot_at t n) (map (spot_at t) (counted (n + 1) (element_count f))))
exited_siblings target t n (node k c f) =
    let here = is_there target (spot_at t n) in
    let inner = map (spot_at t) (counted (n + 1) (element_count c)) in
    let outer = map (spot_at t) (counted (n + 1 + element_count c) (element_count f)) in
    let walk =
    ap (is_exited target) (map-append (event_at t) (steps_from (n + 1) c) ((false, n) ∷ steps_from (n + 1 + element_count c) f))
    ∙ list_any-append (leaves target) (map (event_at t) (steps_from (n + 1) c)) (map (event_at t) ((false, n) ∷ steps_from (n + 1 + element_count c) f))
    ∙ ap (λ b. b || (here || is_exited target (map (event_at t) (steps_from (n + 1 + element_count c) f)))) (exited_siblings target t (n + 1) c)
    ∙ ap (λ b. list_any (is_at target) (nodes_in inner) || (here || b)) (exited_siblings target t (n + 1 + element_count c) f) in
    let spots =
    any_node target (spot_at t n) (map (spot_at t) (counted (n + 1) (element_count c + element_count f)))
    ∙ ap (λ ns. here || list_any (is_at target) (nodes_in (map (spot_at t) ns))) (counted_both (n + 1) (element_count c) (element_count f))
    ∙ ap (λ ss. here || list_any (is_at target) (nodes_in ss))
    (map-append (spot_at t) (counted (n + 1) (element_count c)) (counted (n + 1 + element_count c) (element_count f)))
    ∙ ap (λ b. here || b) (any_nodes target inner outer) in
    walk ∙ swap (list_any (is_at target) (nodes_in inner)) here _ ∙ sym spots
  where
    swap : (a b c : Bool) → (a || (b || c)) ≡ (b || (a || c))
    swap true true c = refl
    swap true false c = refl
    swap false true c = refl
    swap false false c = refl

-- there are no nodes after the last element
no_nodes : (t : Tree) (n k : ℕ) → length (items_of t) ≤ n → nodes_in (map (spot_at t) (counted n k)) ≡ []
no_nodes t n zero beyond = refl
no_nodes t n (suc k) beyond =
    let rest = nodes_in (map (spot_at t) (counted (n + 1) k)) in
    ap (λ (i : Item). if i.is_node then record { tree = t; number = n } ∷ rest else rest) (get_or_past (items_of t) n no_item beyond)
    ∙ no_nodes t (n + 1) k (omega (arith, beyond))

-- a walk over an element leaves the node exactly if it is inside the element
pub remaining_or_not : (target : NodeRange) (root : Located) → is_exited target (preorder_of root) ≡ has_node target root
remaining_or_not target root =
    let t = root.tree in
    let n = root.number in
    let one_more : suc (item_of root).below ≡ 1 + (item_of root).below = omega arith in
    let same : list_any (is_at target) (nodes_in (map (spot_at t) (counted n (element_count (part_at root)))))
    ≡ list_any (is_at target) (nodes_in (map (spot_at t) (counted n (suc (item_of root).below)))) =
    elim (cases_lt n (length (items_of t))) [
      | inl there ↦ ap (λ k. list_any (is_at target) (nodes_in (map (spot_at t) (counted n k))))
          (below_of_part t n (part_at root) (part_there t n there) (one_there t n there))
      | inr beyond ↦ ap (list_any (is_at target)) (no_nodes t n (element_count (part_at root)) beyond
          ∙ sym (no_nodes t n (suc (item_of root).below) beyond))
    ] in
    exited_siblings target t n (part_at root) ∙ same ∙ ap (λ k. list_any (is_at target) (nodes_in (map (spot_at t) (counted n k)))) one_more
