-- The part of an element: the element and what is inside it, among the elements of a forest.
use Rattle.std.proofs.Common.{◌≡◌, ℕ, suc, ◌+◌, ◌-◌, ◌≤◌, ◌<◌, List, [], ◌∷◌, ◌++◌, length, drop, get_or, Bool, true, false, Option, Some, None, refl, ap, sym}
use Rattle.std.proofs.{Common.{◌∙◌, subst, arith, inl, inr, append_assoc, length-append}, lemmas.{Bool.cases_lt, List.{drop_at, append-nil}}}
use Rattle.std.{proofs.lemmas.List.{get_or_append_left, get_or-append_right}, specs.Prelude.{if◌then◌else◌, nat_lt, ◌==◌}}
use Rattle.{rnix_kinds.specs.declared.kinds.SyntaxKind.SyntaxKind, rnix_green.specs.{Forest.{Forest, empty, leaf, node, text_of, element_count}, Tree.Tree}}
use Rattle.rnix_green.specs.{Tree.{Item, items_from, items_of, forest_of, no_item, item, part_of, part_at, children_in}, PreorderNumbers.tree_numbers}
use Rattle.rnix_green.{specs.PreorderNumbers.{siblings_between, passed_over}, proofs.NumberTests.{is_same, is_above, is_below, is_not_below, below_true, below_false}}
use Rattle.rnix_green.proofs.{NumberTests.other, PieceLemmas.length-items_from, SiblingLemmas.{passed_trees, no_sibling}}

-- these elements, from element `m` on, are those of the part, in a forest that is numbered from `n`
pub record IsPart (n m : ℕ) (part : Forest) (is : List Item) : Type 0 where
  pub start : ℕ
  pub parent : Option ℕ
  pub before : List Item
  pub after : List Item
  pub split : is ≡ before ++ (items_from m start parent part ++ after)
  pub counted : n + length before ≡ m

-- this holds for the first element of a forest
first_part : (n s : ℕ) (p : Option ℕ) (part : Forest) (rest : List Item) → IsPart n n part (items_from n s p part ++ rest)
first_part n s p part rest = record { start = s; parent = p; before = []; after = rest; split = refl; counted = omega arith }

-- this holds for other elements before and after
later_part : (n j m : ℕ) (part : Forest) (xs is ys : List Item) → n + length xs ≡ j → IsPart j m part is → IsPart n m part (xs ++ (is ++ ys))
later_part n j m part xs is ys e h = record {
  start = h.start;
  parent = h.parent;
  before = xs ++ h.before;
  after = h.after ++ ys;
  split =
      ap (λ x. xs ++ (x ++ ys)) h.split ∙ ap (λ x. xs ++ x) (append_assoc h.before (items_from m h.start h.parent part ++ h.after) ys)
      ∙ sym (append_assoc xs h.before ((items_from m h.start h.parent part ++ h.after) ++ ys))
      ∙ ap (λ x. (xs ++ h.before) ++ x) (append_assoc (items_from m h.start h.parent part) h.after ys);
  counted = omega (arith, length-append xs h.before, h.counted);
}

-- each element of a forest has its part
pub part_in : (n s : ℕ) (p : Option ℕ) (f : Forest) (m : ℕ) → n ≤ m → m < n + element_count f → IsPart n m (part_of m n f) (items_from n s p f)
part_in n s p empty m l h = absurd (omega arith)
part_in n s p (leaf k t f) m l h =
    let rest = items_from (n + 1) (s + length t) p f in
    elim (cases_lt n m) [
      | inl low ↦
          let e : part_of m n (leaf k t f) ≡ part_of m (n + 1) f = ap (λ b. if b then leaf k t empty else part_of m (n + 1) f) (is_above m n low) in
          let i : Item = record { kind = k; is_node = false; start = s; end = s + length t; parent = p; below = 0 } in
          subst (λ (x : Forest). IsPart n m x (i ∷ rest)) (sym e)
          (subst (λ (x : List Item). IsPart n m (part_of m (n + 1) f) (i ∷ x)) (append-nil rest)
          (later_part n (n + 1) m (part_of m (n + 1) f) (i ∷ []) rest [] (omega arith) (part_in (n + 1) (s + length t) p f m (omega arith) (omega arith))))
      | inr high ↦
          let same : m ≡ n = omega arith in
          let e : part_of m n (leaf k t f) ≡ leaf k t empty = ap (λ b. if b then leaf k t empty else part_of m (n + 1) f) (is_same m n same) in
          let i : Item = record { kind = k; is_node = false; start = s; end = s + length t; parent = p; below = 0 } in
          subst (λ (x : Forest). IsPart n m x (i ∷ rest)) (sym e)
          (subst (λ (x : ℕ). IsPart n x (leaf k t empty) (i ∷ rest)) (sym same) (first_part n s p (leaf k t empty) rest))
    ]
part_in n s p (node k c f) m l h =
    let xs = items_from (n + 1) s (Some n) c in
    let ys = items_from (n + 1 + element_count c) (s + length (text_of c)) p f in
    let count : length xs ≡ element_count c = length-items_from (n + 1) s (Some n) c in
    let i : Item = record { kind = k; is_node = true; start = s; end = s + length (text_of c); parent = p; below = element_count c } in
    let inner = part_of m (n + 1) c in
    let outer = part_of m (n + 1 + element_count c) f in
    elim (cases_lt n m) [
      | inl low ↦
          let e : part_of m n (node k c f) ≡ (if nat_lt m (n + 1 + element_count c) then inner else outer) =
          ap (λ b. if b then node k c empty else (if nat_lt m (n + 1 + element_count c) then inner else outer)) (is_above m n low) in
          elim (cases_lt m (n + 1 + element_count c)) [
            | inl inside ↦
                let e' : part_of m n (node k c f) ≡ inner = e ∙ ap (λ b. if b then inner else outer) (is_below m (n + 1 + element_count c) inside) in
                subst (λ (x : Forest). IsPart n m x (i ∷ (xs ++ ys))) (sym e')
                (later_part n (n + 1) m inner (i ∷ []) xs ys (omega arith) (part_in (n + 1) s (Some n) c m (omega arith) (omega arith)))
            | inr outside ↦
                let e' : part_of m n (node k c f) ≡ outer = e ∙ ap (λ b. if b then inner else outer) (is_not_below m (n + 1 + element_count c) outside) in
                subst (λ (x : Forest). IsPart n m x (i ∷ (xs ++ ys))) (sym e')
                (subst (λ (x : List Item). IsPart n m outer (i ∷ (xs ++ x))) (append-nil ys)
                (later_part n (n + 1 + element_count c) m outer (i ∷ xs) ys [] (omega arith)
                (part_in (n + 1 + element_count c) (s + length (text_of c)) p f m outside (omega arith))))
          ]
      | inr high ↦
          let same : m ≡ n = omega arith in
          let e : part_of m n (node k c f) ≡ node k c empty =
          ap (λ b. if b then node k c empty else (if nat_lt m (n + 1 + element_count c) then inner else outer)) (is_same m n same) in
          subst (λ (x : Forest). IsPart n m x (i ∷ (xs ++ ys))) (sym e)
          (subst (λ (x : ℕ). IsPart n x (node k c empty) (i ∷ (xs ++ ys))) (sym same)
          (subst (λ (x : List Item). IsPart n n (node k c empty) (i ∷ (x ++ ys))) (append-nil xs) (first_part n s p (node k c empty) ys)))
    ]

-- a part is one tree
pub data IsOne : Forest → Type 0 where
  one_leaf : (k : SyntaxKind) (t : List ℕ) → IsOne (leaf k t empty)
  one_node : (k : SyntaxKind) (c : Forest) → IsOne (node k c empty)

choice : (b : Bool) (f g : Forest) → (b ≡ true → IsOne f) → (b ≡ false → IsOne g) → IsOne (if b then f else g)
choice true f g h k = h refl
choice false f g h k = k refl

-- each part is one tree
pub part_is_one : (n : ℕ) (f : Forest) (m : ℕ) → n ≤ m → m < n + element_count f → IsOne (part_of m n f)
part_is_one n empty m l h = absurd (omega arith)
part_is_one n (leaf k t f) m l h =
    choice (m == n) (leaf k t empty) (part_of m (n + 1) f) (λ e. one_leaf k t)
    (λ e. let d : n < m = other m n e l in part_is_one (n + 1) f m (omega arith) (omega arith))
part_is_one n (node k c f) m l h =
    choice (m == n) (node k c empty) (if nat_lt m (n + 1 + element_count c) then part_of m (n + 1) c else part_of m (n + 1 + element_count c) f)
    (λ e. one_node k c)
    (λ e.
    let d : n < m = other m n e l in
    choice (nat_lt m (n + 1 + element_count c)) (part_of m (n + 1) c) (part_of m (n + 1 + element_count c) f)
    (λ b. let x : m < n + 1 + element_count c = below_true m (n + 1 + element_count c) b in part_is_one (n + 1) c m (omega arith) (omega arith))
    (λ b. let x : n + 1 + element_count c ≤ m = below_false m (n + 1 + element_count c) b in part_is_one (n + 1 + element_count c) f m x (omega arith)))

-- the items of a part are items of the whole tree
pub item_of_part : (t : Tree) (r m : ℕ) (part : Forest) (h : IsPart 0 r part (items_of t)) → r ≤ m → m < r + element_count part →
    item t m ≡ get_or (items_from r h.start h.parent part) (m - r) no_item
item_of_part t r m part h l u =
    let xs = items_from r h.start h.parent part in
    let count : length xs ≡ element_count part = length-items_from r h.start h.parent part in
    ap (λ is. get_or is m no_item) h.split
    ∙ get_or-append_right h.before (xs ++ h.after) r m no_item (omega (arith, h.counted)) l
    ∙ get_or_append_left xs h.after no_item (m - r) (omega arith)

-- each element of a tree has its part
pub part_there : (t : Tree) (r : ℕ) → r < length (items_of t) → IsPart 0 r (part_at record { tree = t; number = r }) (items_of t)
part_there t r l =
    let count : length (items_of t) ≡ element_count (forest_of t) = length-items_from 0 0 None (forest_of t) in
    part_in 0 0 None (forest_of t) r (omega arith) (omega arith)

-- each part of a tree is one tree
pub one_there : (t : Tree) (r : ℕ) → r < length (items_of t) → IsOne (part_at record { tree = t; number = r })
one_there t r l =
    let count : length (items_of t) ≡ element_count (forest_of t) = length-items_from 0 0 None (forest_of t) in
    part_is_one 0 (forest_of t) r (omega arith) (omega arith)

-- the number of elements inside the first one of a part
pub below_of_part : (t : Tree) (r : ℕ) (part : Forest) (h : IsPart 0 r part (items_of t)) → IsOne part → element_count part ≡ suc (item t r).below
below_of_part t r _ h (one_leaf k u) =
    let e = item_of_part t r r (leaf k u empty) h (omega arith) (omega arith) in
    let d : r - r ≡ 0 = omega arith in
    let b : (item t r).below ≡ 0 = ap (λ i. i.below) (e ∙ ap (λ n. get_or (items_from r h.start h.parent (leaf k u empty)) n no_item) d) in
    omega arith
below_of_part t r _ h (one_node k c) =
    let e = item_of_part t r r (node k c empty) h (omega arith) (omega arith) in
    let d : r - r ≡ 0 = omega arith in
    let b : (item t r).below ≡ element_count c = ap (λ i. i.below) (e ∙ ap (λ n. get_or (items_from r h.start h.parent (node k c empty)) n no_item) d) in
    omega arith

-- the siblings that begin with an element's first child are its children
pub children_between : (t : Tree) (m : ℕ) → m < length (items_of t) →
    siblings_between (items_of t) (m + 1) (m + 1 + (item t m).below) ≡ tree_numbers (m + 1) (children_in (part_at record { tree = t; number = m }))
children_between t m l = go _ (part_there t m l) (one_there t m l)
  where
    go : (part : Forest) → IsPart 0 m part (items_of t) → IsOne part
        → siblings_between (items_of t) (m + 1) (m + 1 + (item t m).below) ≡ tree_numbers (m + 1) (children_in part)
    go _ h (one_leaf k u) =
        let b : suc 0 ≡ suc (item t m).below = below_of_part t m (leaf k u empty) h (one_leaf k u) in
        no_sibling (items_of t) (m + 1) (m + 1 + (item t m).below) (omega arith)
    go _ h (one_node k c) =
        let b : suc (element_count c + 0) ≡ suc (item t m).below = below_of_part t m (node k c empty) h (one_node k c) in
        let xs = items_from (m + 1) h.start (Some m) c in
        let room : m + 1 + (item t m).below - (m + 1) ≡ element_count c = omega arith in
        let i : Item = record { kind = k; is_node = true; start = h.start; end = h.start + length (text_of c); parent = h.parent; below = element_count c } in
        let front : items_of t ≡ (h.before ++ i ∷ []) ++ (xs ++ h.after) =
        h.split ∙ ap (λ x. h.before ++ (i ∷ (x ++ h.after))) (append-nil xs) ∙ sym (append_assoc h.before (i ∷ []) (xs ++ h.after)) in
        ap (λ n. passed_over (m + 1) 0 n (drop (m + 1) (items_of t))) room
        ∙ ap (λ is. passed_over (m + 1) 0 (element_count c) (drop (m + 1) is)) front
        ∙ ap (λ is. passed_over (m + 1) 0 (element_count c) is)
        (drop_at (h.before ++ i ∷ []) (xs ++ h.after) (m + 1) (omega (arith, length-append h.before (i ∷ []), h.counted)))
        ∙ passed_trees (m + 1) h.start (Some m) c h.after
