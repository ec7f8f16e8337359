-- Skipping the rest of an element in a walk.
use Rattle.std.proofs.Common.{◌≡◌, ℕ, zero, suc, ◌+◌, ◌≤◌, ◌<◌, List, [], ◌∷◌, ◌++◌, length, map, Bool, true, false, Option, Some, None, refl, ap, sym}
use Rattle.std.{proofs.{Common.{◌∙◌, subst, arith, ◌⊎◌, inl, inr, append_assoc}, lemmas.{Bool.cases_lt, List.append-nil}}, specs.Prelude.if◌then◌else◌}
use Rattle.{rnix_kinds.specs.declared.kinds.SyntaxKind.SyntaxKind, rnix_green.specs.{Forest.{Forest, empty, leaf, node, text_of, element_count}, Tree.Tree}}
use Rattle.rnix_green.specs.{Tree.{items_of, item, part_at}, Walk.{Step, Spot, Event, steps_from, event_at, from_leaving, node_events}}
use Rattle.rnix_green.proofs.{NumberTests.{is_same, is_above}, PartLemmas.{IsPart, IsOne, one_leaf, one_node, part_there, one_there, item_of_part}}
use Rattle.{rnix_green.proofs.PartLemmas.below_of_part, rnix_tree.specs.Cursor.{from_enter, from_leave, steps_remaining, events_remaining, IsInside, IsNextWithin}}
use Rattle.rnix_tree.{specs.{Cursor.{around, after_skip}, declared.walk.Next.{Next, TheVariants.{Enter, Leave, Done}}}, proofs.WalkSiblings.{at, at_inside}}
use Rattle.rnix_tree.proofs.WalkSiblings.{at_behind, at_next, at_first, enter_inside, enter_behind, enter_next, enter_here, leave_inside, leave_behind, leave_next}
use Rattle.rnix_tree.proofs.{WalkSiblings.leave_node, PreorderLemmas.{leaves, whole_walk}}

-- the steps of a forest leave as many elements as they enter
balanced : (n : ℕ) (f : Forest) (d : ℕ) (rest : List Step) → from_leaving d (steps_from n f ++ rest) ≡ from_leaving d rest
balanced n empty d rest = refl
balanced n (leaf k t f) zero rest = balanced (n + 1) f zero rest
balanced n (leaf k t f) (suc d) rest = balanced (n + 1) f (suc d) rest
balanced n (node k c f) zero rest =
    let behind = steps_from (n + 1 + element_count c) f in
    ap (from_leaving 1) (append_assoc (steps_from (n + 1) c) ((false, n) ∷ behind) rest)
    ∙ balanced (n + 1) c 1 ((false, n) ∷ (behind ++ rest)) ∙ balanced (n + 1 + element_count c) f zero rest
balanced n (node k c f) (suc d) rest =
    let behind = steps_from (n + 1 + element_count c) f in
    ap (from_leaving (suc (suc d))) (append_assoc (steps_from (n + 1) c) ((false, n) ∷ behind) rest)
    ∙ balanced (n + 1) c (suc (suc d)) ((false, n) ∷ (behind ++ rest)) ∙ balanced (n + 1 + element_count c) f (suc d) rest

-- which events are skipped depends on the steps alone
by_steps : (t : Tree) (d : ℕ) (steps : List Step) → from_leaving d (map (event_at t) steps) ≡ map (event_at t) (from_leaving d steps)
by_steps t zero [] = refl
by_steps t (suc d) [] = refl
by_steps t zero ((true, m) ∷ steps) = by_steps t 1 steps
by_steps t zero ((false, m) ∷ steps) = refl
by_steps t (suc d) ((true, m) ∷ steps) = by_steps t (suc (suc d)) steps
by_steps t (suc d) ((false, m) ∷ steps) = by_steps t d steps

-- skipping leaves at most as many events
pub from_leaving-shorter : {S : Type 0} (d : ℕ) (es : List (Bool × S)) → length (from_leaving d es) ≤ length es
from_leaving-shorter zero [] = omega arith
from_leaving-shorter (suc d) [] = omega arith
from_leaving-shorter zero ((true, s) ∷ es) = omega (arith, from_leaving-shorter 1 es)
from_leaving-shorter zero ((false, s) ∷ es) = omega arith
from_leaving-shorter (suc d) ((true, s) ∷ es) = omega (arith, from_leaving-shorter (suc (suc d)) es)
from_leaving-shorter (suc d) ((false, s) ∷ es) = omega (arith, from_leaving-shorter d es)

-- skipping leaves at most as many events of nodes
one_more : (enters : Bool) (spot : Spot) (es : List Event) → length (node_events es) ≤ length (node_events ((enters, spot) ∷ es))
one_more enters (true, e) es = omega arith
one_more enters (false, e) es = omega arith

pub node_events-shorter : (d : ℕ) (es : List Event) → length (node_events (from_leaving d es)) ≤ length (node_events es)
node_events-shorter zero [] = omega arith
node_events-shorter (suc d) [] = omega arith
node_events-shorter zero ((true, s) ∷ es) = omega (arith, node_events-shorter 1 es, one_more true s es)
node_events-shorter zero ((false, s) ∷ es) = omega arith
node_events-shorter (suc d) ((true, s) ∷ es) = omega (arith, node_events-shorter (suc (suc d)) es, one_more true s es)
node_events-shorter (suc d) ((false, s) ∷ es) = omega (arith, node_events-shorter d es, one_more false s es)

-- from one of the trees of a forest, the rest of the forest is skipped
record PassesSiblings (n s : ℕ) (p : Option ℕ) (f : Forest) (m : ℕ) : Type 0 where
  pub parent : (at n s p f m).parent ≡ p
  pub passes : (d : ℕ) (rest : List Step) → from_leaving d (from_enter m n f ++ rest) ≡ from_leaving d rest

-- from an element with a parent in the forest, everything is skipped until the parent is left
pub record PassesInside (n s : ℕ) (p : Option ℕ) (f : Forest) (m : ℕ) : Type 0 where
  pub outer : ℕ
  pub parent : (at n s p f m).parent ≡ Some outer
  pub low : n ≤ outer
  pub high : outer < m
  pub passes : (rest : List Step) → from_leaving 0 (from_enter m n f ++ rest) ≡ from_leave outer n f ++ rest

-- from an element inside a node
inside_node : (n s : ℕ) (p : Option ℕ) (k : SyntaxKind) (c f : Forest) (m : ℕ) → n < m → m < n + 1 + element_count c
    → PassesSiblings (n + 1) s (Some n) c m ⊎ PassesInside (n + 1) s (Some n) c m → PassesInside n s p (node k c f) m
inside_node n s p k c f m l u (inl h) =
    let tail = (false, n) ∷ steps_from (n + 1 + element_count c) f in
    record {
      outer = n;
      parent = ap (λ x. x.parent) (at_inside n s p k c f m l u) ∙ h.parent;
      low = omega arith;
      high = l;
      passes = λ rest.
          ap (λ x. from_leaving 0 (x ++ rest)) (enter_inside m n k c f l u)
          ∙ ap (from_leaving 0) (append_assoc (from_enter m (n + 1) c) tail rest)
          ∙ h.passes 0 (tail ++ rest)
          ∙ ap (λ x. x ++ rest) (sym (leave_node n n k c f refl));
    }
inside_node n s p k c f m l u (inr h) =
    let tail = (false, n) ∷ steps_from (n + 1 + element_count c) f in
    let low : n + 1 ≤ h.outer = h.low in
    let high : h.outer < m = h.high in
    record {
      outer = h.outer;
      parent = ap (λ x. x.parent) (at_inside n s p k c f m l u) ∙ h.parent;
      low = omega arith;
      high = h.high;
      passes = λ rest.
          ap (λ x. from_leaving 0 (x ++ rest)) (enter_inside m n k c f l u)
          ∙ ap (from_leaving 0) (append_assoc (from_enter m (n + 1) c) tail rest)
          ∙ h.passes (tail ++ rest)
          ∙ sym (append_assoc (from_leave h.outer (n + 1) c) tail rest)
          ∙ ap (λ x. x ++ rest) (sym (leave_inside h.outer n k c f (omega arith) (omega arith)));
    }

-- from the first tree of a forest
first_of_siblings : (n s : ℕ) (p : Option ℕ) (f : Forest) (m : ℕ) → m ≡ n → 0 < element_count f → (at n s p f n).parent ≡ p → PassesSiblings n s p f m
first_of_siblings n s p f m e some parent = record {
  parent = ap (λ j. (at n s p f j).parent) e ∙ parent;
  passes = λ d rest. ap (λ y. from_leaving d (y ++ rest)) (enter_here m n f e some) ∙ balanced n f d rest;
}

-- from each element of a forest
passed_from : (n s : ℕ) (p : Option ℕ) (f : Forest) (m : ℕ) → n ≤ m → m < n + element_count f → PassesSiblings n s p f m ⊎ PassesInside n s p f m
passed_from n s p empty m l h = absurd (omega arith)
passed_from n s p (leaf k t f) m l h =
    elim (cases_lt n m) [
      | inl low ↦
          let i = at_next n s p k t f m low in
          elim (passed_from (n + 1) (s + length t) p f m (omega arith) (omega arith)) [
            | inl x ↦ inl (record {
              parent = ap (λ y. y.parent) i ∙ x.parent;
              passes = λ d rest. ap (λ y. from_leaving d (y ++ rest)) (enter_next m n k t f low) ∙ x.passes d rest;
            })
            | inr x ↦
                let outer_low : n + 1 ≤ x.outer = x.low in
                inr (record {
                  outer = x.outer;
                  parent = ap (λ y. y.parent) i ∙ x.parent;
                  low = omega arith;
                  high = x.high;
                  passes = λ rest.
                      ap (λ y. from_leaving 0 (y ++ rest)) (enter_next m n k t f low) ∙ x.passes rest
                      ∙ ap (λ y. y ++ rest) (sym (leave_next x.outer n k t f (omega arith)));
                })
          ]
      | inr high ↦ inl (first_of_siblings n s p (leaf k t f) m (omega arith) (omega arith) (ap (λ y. y.parent) (at_first n s p (leaf k t f) _ _ refl)))
    ]
passed_from n s p (node k c f) m l h =
    elim (cases_lt n m) [
      | inl low ↦
          elim (cases_lt m (n + 1 + element_count c)) [
            | inl inside ↦ inr (inside_node n s p k c f m low inside (passed_from (n + 1) s (Some n) c m (omega arith) (omega arith)))
            | inr outside ↦
                let i = at_behind n s p k c f m outside in
                elim (passed_from (n + 1 + element_count c) (s + length (text_of c)) p f m outside (omega arith)) [
                  | inl x ↦ inl (record {
                    parent = ap (λ y. y.parent) i ∙ x.parent;
                    passes = λ d rest. ap (λ y. from_leaving d (y ++ rest)) (enter_behind m n k c f outside) ∙ x.passes d rest;
                  })
                  | inr x ↦
                      let outer_low : n + 1 + element_count c ≤ x.outer = x.low in
                      inr (record {
                        outer = x.outer;
                        parent = ap (λ y. y.parent) i ∙ x.parent;
                        low = omega arith;
                        high = x.high;
                        passes = λ rest.
                            ap (λ y. from_leaving 0 (y ++ rest)) (enter_behind m n k c f outside) ∙ x.passes rest
                            ∙ ap (λ y. y ++ rest) (sym (leave_behind x.outer n k c f outer_low));
                      })
                ]
          ]
      | inr high ↦ inl (first_of_siblings n s p (node k c f) m (omega arith) (omega arith) (ap (λ y. y.parent) (at_first n s p (node k c f) _ _ refl)))
    ]

-- from an element below the root of a part
below_root : (root s : ℕ) (p : Option ℕ) (part : Forest) (m : ℕ) → IsOne part → root < m → m < root + element_count part → PassesInside root s p part m
below_root root s p _ m (one_leaf k u) l h = absurd (omega arith)
below_root root s p _ m (one_node k c) l h =
    inside_node root s p k c empty m l (omega arith) (passed_from (root + 1) s (Some root) c m (omega arith) (omega arith))

-- the walk continues within its root, with the events that are not skipped
pub record Skips (t : Tree) (root : ℕ) (here next : Next) : Type 0 where
  pub within : IsNextWithin t root next
  pub events : from_leaving 0 (events_remaining t root here) ≡ events_remaining t root next

-- the walk continues where the parent is left
to_parent : (t : Tree) (root m : ℕ) → root < length (items_of t) → IsInside t root m → root < m → Skips t root (Enter m) (after_skip t root (Enter m))
to_parent t root m there inside low =
    let part = part_at record { tree = t; number = root } in
    let h : IsPart 0 root part (items_of t) = part_there t root there in
    let count : element_count part ≡ suc (item t root).below = below_of_part t root part h (one_there t root there) in
    let high : m < root + 1 + (item t root).below = inside.high in
    let i : item t m ≡ at root h.start h.parent part m = item_of_part t root m part h (omega arith) (omega arith) in
    let w = below_root root h.start h.parent part m (one_there t root there) low (omega arith) in
    let outer_low : root ≤ w.outer = w.low in
    let outer_high : w.outer < m = w.high in
    let here : m < length (items_of t) = inside.there in
    let next : after_skip t root (Enter m) ≡ Leave w.outer =
    ap (around root m) (ap (λ x. x.parent) i ∙ w.parent) ∙ ap (λ b. if b then Done else Leave w.outer) (is_above m root low) in
    record {
      within = subst (IsNextWithin t root) (sym next) (record { low = omega arith; high = omega arith; there = omega arith });
      events =
          by_steps t 0 (from_enter m root part)
          ∙ ap (map (event_at t)) (ap (from_leaving 0) (sym (append-nil (from_enter m root part))) ∙ w.passes [] ∙ append-nil (from_leave w.outer root part))
          ∙ ap (events_remaining t root) (sym next);
    }

-- at its root, the walk ends
pub around_root : (root m : ℕ) (p : Option ℕ) → m ≡ root → around root m p ≡ Done
around_root root m None e = refl
around_root root m (Some p) e = ap (λ b. if b then Done else Leave p) (is_same m root e)

to_end : (t : Tree) (root m : ℕ) → root < length (items_of t) → m ≡ root → Skips t root (Enter m) (after_skip t root (Enter m))
to_end t root m there e =
    let part = part_at record { tree = t; number = root } in
    let next : after_skip t root (Enter m) ≡ Done = around_root root m (item t m).parent e in
    record {
      within = subst (IsNextWithin t root) (sym next) tt;
      events =
          ap (λ j. from_leaving 0 (events_remaining t root (Enter j))) e
          ∙ by_steps t 0 (from_enter root root part)
          ∙ ap (map (event_at t)) (ap (from_leaving 0) (whole_walk t root there ∙ sym (append-nil (steps_from root part))) ∙ balanced root part 0 [])
          ∙ ap (events_remaining t root) (sym next);
    }

-- from wherever a walk is
pub skips : (t : Tree) (root : ℕ) (here : Next) → root < length (items_of t) → IsNextWithin t root here → Skips t root here (after_skip t root here)
skips t root (Enter m) there inside =
    elim (cases_lt root m) [
      | inl low ↦ to_parent t root m there inside low
      | inr high ↦ to_end t root m there (let low : root ≤ m = inside.low in omega arith)
    ]
skips t root (Leave m) there inside =
    let remaining = leaves t root m there inside in
    record {
      within = inside;
      events =
          by_steps t 0 (steps_remaining t root (Leave m))
          ∙ ap (map (event_at t)) (ap (from_leaving 0) remaining.step_is ∙ sym remaining.step_is);
    }
skips t root Done there inside = record { within = tt; events = refl }
