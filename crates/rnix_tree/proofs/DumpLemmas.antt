-- A walk over an element prints the element's lines.
use Rattle.std.proofs.Common.{◌≡◌, ℕ, ◌+◌, ◌-◌, ◌≤◌, ◌<◌, ◌^◌, nat_lt, true≢false, List, [], ◌∷◌, ◌++◌, length, map, get_or, true, false, Option, Some, None}
use Rattle.std.proofs.{Common.{refl, ap, sym, subst, ◌∙◌, arith, inl, inr, append_assoc, append-nil}, lemmas.{Bool.cases_lt, List.map-append}}
use Rattle.{std.specs.Prelude.if◌then◌else◌, rnix_kinds.specs.declared.kinds.SyntaxKind.SyntaxKind, rnix_green.specs.Forest.{Forest, empty, leaf, node}}
use Rattle.rnix_green.specs.{Forest.{text_of, element_count}, Tree.{Tree, Item, Located, items_from, items_of, no_item, item, item_of, extent_of, forest_of}}
use Rattle.rnix_green.{specs.{Tree.{part_of, part_at}, Walk.{Event, steps_from, event_at, preorder_of}}, proofs.NumberTests.{is_above, is_not_below}}
use Rattle.rnix_green.proofs.{PartLemmas.{IsPart, IsOne, one_leaf, one_node, part_there, one_there, item_of_part}, PieceLemmas.length-items_from}
use Rattle.rnix_tree.specs.{Spots.{event_of, spot_of, located_of}, declared.element.{NodeOrToken.{NodeOrToken, TheVariants.{Node, Token}}, WalkEvent.WalkEvent}}
use Rattle.rnix_tree.specs.{declared.element.WalkEvent.TheVariants.Enter, Lines.{line_of, lines_from, lines_of}, Walked.{event_lines, entered_in, IsNested}}
use Rattle.rnix_tree.proofs.ItemsAt.{HasItemsAt, first_item, front_items, back_items}

-- the events of an element print its line, and the lines of what is inside it
around : (t : Tree) (n : ℕ) (i : Item) (depth : ℕ) (inside : List Event) (more : List Event) (lines : List ℕ) → item t n ≡ i
    → event_lines (depth + 1) (inside ++ event_at t (false, n) ∷ more) ≡ lines ++ event_lines (depth + 1) (event_at t (false, n) ∷ more)
    → event_lines depth (event_at t (true, n) ∷ (inside ++ event_at t (false, n) ∷ more))
    ≡ line_of depth i.kind record { start = i.start; end = i.end } ++ (lines ++ event_lines depth more)
around t n i depth inside more lines e h =
    let d : depth + 1 - 1 ≡ depth = omega arith in
    ap (λ (x : Item). line_of depth x.kind record { start = x.start; end = x.end } ++ event_lines (depth + 1) (inside ++ event_at t (false, n) ∷ more)) e
    ∙ ap (λ x. line_of depth i.kind record { start = i.start; end = i.end } ++ x) (h ∙ ap (λ x. lines ++ event_lines x more) d)

-- the lines of a forest that begins with a node
node_lines : (depth s : ℕ) (k : SyntaxKind) (c f : Forest) (more : List ℕ) → lines_from depth s (node k c f) ++ more
    ≡ line_of depth k record { start = s; end = s + length (text_of c) }
    ++ (lines_from (depth + 1) s c ++ (lines_from depth (s + length (text_of c)) f ++ more))
node_lines depth s k c f more =
    let line = line_of depth k record { start = s; end = s + length (text_of c) } in
    let inner = lines_from (depth + 1) s c in
    let outer = lines_from depth (s + length (text_of c)) f in
    append_assoc (line ++ inner) outer more ∙ append_assoc line inner (outer ++ more)

-- the walk over a forest prints the forest's lines
walk_lines : (t : Tree) (n s : ℕ) (p : Option ℕ) (f : Forest) (depth : ℕ) (more : List Event) → HasItemsAt t n (items_from n s p f)
    → event_lines depth (map (event_at t) (steps_from n f) ++ more) ≡ lines_from depth s f ++ event_lines depth more
walk_lines t n s p empty depth more h = refl
walk_lines t n s p (leaf k u f) depth more h =
    let i : Item = record { kind = k; is_node = false; start = s; end = s + length u; parent = p; below = 0 } in
    let line = line_of depth k record { start = s; end = s + length u } in
    let rest = items_from (n + 1) (s + length u) p f in
    around t n i depth [] (map (event_at t) (steps_from (n + 1) f) ++ more) [] (first_item t n i rest h) refl
    ∙ ap (λ x. line ++ x) (walk_lines t (n + 1) (s + length u) p f depth more (back_items t n (n + 1) (i ∷ []) rest refl h))
    ∙ sym (append_assoc line (lines_from depth (s + length u) f) (event_lines depth more))
walk_lines t n s p (node k c f) depth more h =
    let i : Item = record { kind = k; is_node = true; start = s; end = s + length (text_of c); parent = p; below = element_count c } in
    let line = line_of depth k record { start = s; end = s + length (text_of c) } in
    let xs = items_from (n + 1) s (Some n) c in
    let ys = items_from (n + 1 + element_count c) (s + length (text_of c)) p f in
    let inner = lines_from (depth + 1) s c in
    let outer = lines_from depth (s + length (text_of c)) f in
    let behind = map (event_at t) (steps_from (n + 1 + element_count c) f) ++ more in
    let steps = map (event_at t) (steps_from (n + 1) c) in
    let below : HasItemsAt t (n + 1) (xs ++ ys) = back_items t n (n + 1) (i ∷ []) (xs ++ ys) refl h in
    ap (λ x. event_lines depth (event_at t (true, n) ∷ (x ++ more)))
    (map-append (event_at t) (steps_from (n + 1) c) ((false, n) ∷ steps_from (n + 1 + element_count c) f))
    ∙ ap (λ x. event_lines depth (event_at t (true, n) ∷ x)) (append_assoc steps
    (event_at t (false, n) ∷ map (event_at t) (steps_from (n + 1 + element_count c) f)) more)
    ∙ around t n i depth steps behind inner (first_item t n i (xs ++ ys) h)
    (walk_lines t (n + 1) s (Some n) c (depth + 1) (event_at t (false, n) ∷ behind) (front_items t (n + 1) xs ys below))
    ∙ ap (λ x. line ++ (inner ++ x))
    (walk_lines t (n + 1 + element_count c) (s + length (text_of c)) p f depth more
    (back_items t (n + 1) (n + 1 + element_count c) xs ys (ap (λ x. n + 1 + x) (length-items_from (n + 1) s (Some n) c)) below))
    ∙ sym (node_lines depth s k c f (event_lines depth more))

-- an element of a tree starts where its part does
start_is : (e : Located) (there : e.number < length (items_of e.tree)) → (part_there e.tree e.number there).start ≡ (item_of e).start
start_is e there = go (part_at e) (part_there e.tree e.number there) (one_there e.tree e.number there)
  where
    go : (part : Forest) (h : IsPart 0 e.number part (items_of e.tree)) → IsOne part → h.start ≡ (item_of e).start
    go _ h (one_leaf k u) =
        let z : e.number - e.number ≡ 0 = omega arith in
        sym (ap (λ (i : Item). i.start) (item_of_part e.tree e.number e.number (leaf k u empty) h (omega arith) (omega arith)
        ∙ ap (λ j. get_or (items_from e.number h.start h.parent (leaf k u empty)) j no_item) z))
    go _ h (one_node k c) =
        let z : e.number - e.number ≡ 0 = omega arith in
        sym (ap (λ (i : Item). i.start) (item_of_part e.tree e.number e.number (node k c empty) h (omega arith) (omega arith)
        ∙ ap (λ j. get_or (items_from e.number h.start h.parent (node k c empty)) j no_item) z))

-- the part of a number beyond the forest is empty
absent_part : (m n : ℕ) (f : Forest) → n + element_count f ≤ m → part_of m n f ≡ empty
absent_part m n empty h = refl
absent_part m n (leaf k t f) h =
    ap (λ b. if b then leaf k t empty else part_of m (n + 1) f) (is_above m n (omega arith)) ∙ absent_part m (n + 1) f (omega arith)
absent_part m n (node k c f) h =
    let inner = part_of m (n + 1) c in
    let outer = part_of m (n + 1 + element_count c) f in
    ap (λ b. if b then node k c empty else (if nat_lt m (n + 1 + element_count c) then inner else outer)) (is_above m n (omega arith))
    ∙ ap (λ b. if b then inner else outer) (is_not_below m (n + 1 + element_count c) (omega arith))
    ∙ absent_part m (n + 1 + element_count c) f (omega arith)

-- the walk over an element prints its lines
walk_prints : (e : Located) → event_lines 0 (preorder_of e) ≡ lines_of e
walk_prints e = elim (cases_lt e.number (length (items_of e.tree))) [ inl there ↦ present there | inr h ↦ absent h ]
  where
    present : e.number < length (items_of e.tree) → event_lines 0 (preorder_of e) ≡ lines_of e
    present there =
        let h = part_there e.tree e.number there in
        let events = map (event_at e.tree) (steps_from e.number (part_at e)) in
        ap (λ x. event_lines 0 x) (sym (append-nil events))
        ∙ walk_lines e.tree e.number h.start h.parent (part_at e) 0 []
        (record { before = h.before; after = h.after; split = h.split; counted = omega (arith, h.counted) })
        ∙ append-nil (lines_from 0 h.start (part_at e))
        ∙ ap (λ x. lines_from 0 x (part_at e)) (start_is e there)

    absent : length (items_of e.tree) ≤ e.number → event_lines 0 (preorder_of e) ≡ lines_of e
    absent h =
        let count : length (items_of e.tree) ≡ element_count (forest_of e.tree) = length-items_from 0 0 None (forest_of e.tree) in
        let none : part_at e ≡ empty = absent_part e.number 0 (forest_of e.tree) (omega arith) in
        ap (λ f. event_lines 0 (map (event_at e.tree) (steps_from e.number f))) none ∙ sym (ap (λ f. lines_from 0 (item_of e).start f) none)

-- two joined lists of events enter as many elements as both
entered_in-append : (xs ys : List Event) → entered_in (xs ++ ys) ≡ entered_in xs + entered_in ys
entered_in-append [] ys = omega arith
entered_in-append (x ∷ xs) ys = let more = entered_in-append xs ys in omega (arith, more)

-- the walk over a forest enters each of its elements
enters_all : (t : Tree) (n : ℕ) (f : Forest) → entered_in (map (event_at t) (steps_from n f)) ≡ element_count f
enters_all t n empty = refl
enters_all t n (leaf k u f) = let more = enters_all t (n + 1) f in omega (arith, more)
enters_all t n (node k c f) =
    let inner = map (event_at t) (steps_from (n + 1) c) in
    let outer = map (event_at t) (steps_from (n + 1 + element_count c) f) in
    let whole : entered_in (map (event_at t) (steps_from n (node k c f))) ≡ 1 + (entered_in inner + (0 + entered_in outer)) =
    ap (λ x. 1 + entered_in x) (map-append (event_at t) (steps_from (n + 1) c) ((false, n) ∷ steps_from (n + 1 + element_count c) f))
    ∙ ap (λ x. 1 + x) (entered_in-append inner (event_at t (false, n) ∷ outer)) in
    let below : entered_in inner ≡ element_count c = enters_all t (n + 1) c in
    let behind : entered_in outer ≡ element_count f = enters_all t (n + 1 + element_count c) f in
    whole ∙ ap (λ x. 1 + (x + (0 + entered_in outer))) below ∙ ap (λ x. 1 + (element_count c + (0 + x))) behind ∙ omega arith

-- a walk over a forest returns to the depth at which it began
walk_nested : (t : Tree) (n : ℕ) (f : Forest) (depth : ℕ) (more : List Event) → IsNested depth more → IsNested depth (map (event_at t) (steps_from n f) ++ more)
walk_nested t n empty depth more h = h
walk_nested t n (leaf k u f) depth more h =
    let back : depth ≡ depth + 1 - 1 = omega arith in (
      λ e. absurd (true≢false e),
      ((λ _. omega arith), subst (λ (x : ℕ). IsNested x (map (event_at t) (steps_from (n + 1) f) ++ more)) back (walk_nested t (n + 1) f depth more h)),
    )
walk_nested t n (node k c f) depth more h =
    let back : depth ≡ depth + 1 - 1 = omega arith in
    let inner = map (event_at t) (steps_from (n + 1) c) in
    let outer = map (event_at t) (steps_from (n + 1 + element_count c) f) in
    let split : map (event_at t) (steps_from (n + 1) c ++ (false, n) ∷ steps_from (n + 1 + element_count c) f) ++ more ≡ inner
    ++ (event_at t (false, n) ∷ (outer ++ more)) =
    ap (λ x. x ++ more) (map-append (event_at t) (steps_from (n + 1) c) ((false, n) ∷ steps_from (n + 1 + element_count c) f))
    ∙ append_assoc inner (event_at t (false, n) ∷ outer) more in (
      λ e. absurd (true≢false e),
      subst (IsNested (depth + 1)) (sym split)
          (walk_nested t (n + 1) c (depth + 1) (event_at t (false, n) ∷ (outer ++ more))
          ((λ _. omega arith), subst (λ (x : ℕ). IsNested x (outer ++ more)) back (walk_nested t (n + 1 + element_count c) f depth more h))),
    )

-- a walk begins at depth zero, and its depths fit a number
pub begun : (e : Located) (remaining : List Event) → remaining ≡ preorder_of e → element_count (part_at e) < 2 ^ 64
    → (0 + entered_in remaining < 2 ^ 64) × IsNested 0 remaining
begun e remaining is h =
    let count : entered_in remaining ≡ element_count (part_at e) = ap entered_in is ∙ enters_all e.tree e.number (part_at e) in (
      subst (λ (x : ℕ). 0 + x < 2 ^ 64) (sym count) (omega arith),
      subst (IsNested 0) (append-nil (preorder_of e) ∙ sym is) (walk_nested e.tree e.number (part_at e) 0 [] tt),
    )

-- the spot of an element has its place
located_is : (e : NodeOrToken Located Located) → (spot_of e).1 ≡ located_of e
located_is (Node e) = refl
located_is (Token e) = refl

-- when an element is entered, its line follows the lines so far
pub entered : (bs all : List ℕ) (depth next : ℕ) (remaining rest : List Event) (event : WalkEvent (NodeOrToken Located Located))
    (e : NodeOrToken Located Located)
    → bs ++ event_lines depth remaining ≡ all → remaining ≡ event_of event ∷ rest → event ≡ Enter e → next ≡ depth + 1
    → (bs ++ line_of depth (item_of (located_of e)).kind (extent_of (located_of e))) ++ event_lines next rest ≡ all
entered bs all depth next remaining rest event e h steps is deeper =
    let line = λ (x : Located). line_of depth (item_of x).kind (extent_of x) in
    append_assoc bs (line (located_of e)) (event_lines next rest)
    ∙ ap (λ x. bs ++ (line (located_of e) ++ event_lines x rest)) deeper
    ∙ ap (λ x. bs ++ (line x ++ event_lines (depth + 1) rest)) (sym (located_is e))
    ∙ ap (λ x. bs ++ event_lines depth (event_of x ∷ rest)) (sym is)
    ∙ ap (λ x. bs ++ event_lines depth x) (sym steps)
    ∙ h

-- the rest of a walk keeps its depths
pub deeper : (depth : ℕ) (remaining rest : List Event) (event : WalkEvent (NodeOrToken Located Located)) (e : NodeOrToken Located Located)
    → (depth + entered_in remaining < 2 ^ 64) × IsNested depth remaining → remaining ≡ event_of event ∷ rest → event ≡ Enter e
    → (depth + 1 + entered_in rest < 2 ^ 64) × IsNested (depth + 1) rest
deeper depth remaining rest event e h steps is =
    let here : remaining ≡ event_of (Enter e) ∷ rest = steps ∙ ap (λ x. event_of x ∷ rest) is in
    let fits : depth + (1 + entered_in rest) < 2 ^ 64 = subst (λ x. depth + entered_in x < 2 ^ 64) here h.0 in
    let nested : IsNested depth (event_of (Enter e) ∷ rest) = subst (IsNested depth) here h.1 in
    (omega arith, nested.1)

-- when no event is left, the lines so far are those of the element
pub finished : (e : Located) (bs : List ℕ) (depth : ℕ) (remaining : List Event) → bs ++ event_lines depth remaining ≡ event_lines 0 (preorder_of e)
    → remaining ≡ []
    → bs ≡ lines_of e
finished e bs depth remaining h none = sym (append-nil bs) ∙ sym (ap (λ x. bs ++ event_lines depth x) none) ∙ h ∙ walk_prints e
