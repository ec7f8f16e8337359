-- The steps of a walk in preorder.
use Rattle.std.proofs.Common.{◌≡◌, ℕ, suc, ◌+◌, ◌-◌, ◌≤◌, ◌<◌, nat_lt, List, [], ◌∷◌, length, Bool, true, false, Option, Some, None, refl, ap, sym, ◌∙◌, subst}
use Rattle.{std.{proofs.{Common.{arith, inl, inr}, lemmas.Bool.cases_lt}, specs.Prelude.if◌then◌else◌}, rnix_green.specs.Forest.{Forest, empty, leaf, node}}
use Rattle.rnix_green.{specs.{Forest.element_count, Tree.{Tree, items_of, item, part_at}, Walk.{Step, steps_from}}, proofs.NumberTests.{is_same, is_above}}
use Rattle.rnix_green.proofs.{NumberTests.below_true, SiblingLemmas.{below_fits, next_inside}, PartLemmas.{IsPart, IsOne, one_leaf, one_node, part_there}}
use Rattle.{rnix_green.proofs.PartLemmas.{one_there, item_of_part, below_of_part}, rnix_tree.specs.Cursor.{from_enter, from_leave, steps_remaining, IsInside}}
use Rattle.rnix_tree.specs.{Cursor.{IsNextWithin, after_enter, after_leave, behind}, declared.walk.Next.{Next, TheVariants.{Enter, Leave, Done}}}
use Rattle.rnix_tree.proofs.{WalkSiblings.{at, enter_here, leave_leaf, leave_node}, EnterSteps.enter_step, LeaveSteps.{LeavesInside, inside_top, inside_inside}}
use Rattle.rnix_tree.proofs.LeaveSteps.{leave_step}

-- the next event of a walk within a root, and how the walk continues after it
pub record Goes (t : Tree) (root : ℕ) (here : Next) (step : Step) (next : Next) : Type 0 where
  pub step_is : steps_remaining t root here ≡ step ∷ steps_remaining t root next
  pub within : IsNextWithin t root next

split_choice : (b : Bool) (u v : Next) (x y : List Step) (f : Next → List Step) → f u ≡ x → f v ≡ y → f (if b then u else v) ≡ (if b then x else y)
split_choice true u v x y f g h = g
split_choice false u v x y f g h = h

-- the event that enters an element
pub enters : (t : Tree) (root m : ℕ) → root < length (items_of t) → IsInside t root m → Goes t root (Enter m) (true, m) (after_enter t m)
enters t root m there inside =
    let part = part_at record { tree = t; number = root } in
    let h : IsPart 0 root part (items_of t) = part_there t root there in
    let count : element_count part ≡ suc (item t root).below = below_of_part t root part h (one_there t root there) in
    let low : root ≤ m = inside.low in
    let high : m < root + 1 + (item t root).below = inside.high in
    let i : item t m ≡ at root h.start h.parent part m = item_of_part t root m part h low (omega arith) in
    let fits : m - root + 1 + (at root h.start h.parent part m).below ≤ element_count part = below_fits root h.start h.parent part (m - root) (omega arith) in
    let same : (item t m).below ≡ (at root h.start h.parent part m).below = ap (λ x. x.below) i in
    let inside_tree : m + 1 + (item t m).below ≤ length (items_of t) = next_inside t m inside.there in
    record {
      step_is =
          enter_step root h.start h.parent part m low (omega arith)
          ∙ ap (λ b. (true, m) ∷ (if nat_lt 0 b then from_enter (m + 1) root part else from_leave m root part)) (sym same)
          ∙ ap (λ x. (true, m) ∷ x) (sym (split_choice (nat_lt 0 (item t m).below) (Enter (m + 1)) (Leave m) _ _ (steps_remaining t root) refl refl));
      within =
          choose (nat_lt 0 (item t m).below) refl
          (λ g. let some : 0 < (item t m).below = below_true 0 _ g in record { low = omega arith; high = omega arith; there = omega arith });
    }
  where
    choose : (b : Bool) → nat_lt 0 (item t m).below ≡ b → (nat_lt 0 (item t m).below ≡ true → IsInside t root (m + 1))
        → IsNextWithin t root (if b then Enter (m + 1) else Leave m)
    choose true e k = k e
    choose false e k = inside

-- when its root is left, a walk ends
leaves_root : (t : Tree) (root : ℕ) (part : Forest) → IsOne part → from_leave root root part ≡ (false, root) ∷ []
leaves_root t root _ (one_leaf k u) = leave_leaf root root k u empty refl
leaves_root t root _ (one_node k c) = leave_node root root k c empty refl

behind_root : (t : Tree) (root m : ℕ) (p : Option ℕ) → m ≡ root → behind t root m p ≡ Done
behind_root t root m None e = refl
behind_root t root m (Some p) e =
    ap (λ b. if b then Done else (if nat_lt (m + 1 + (item t m).below) (p + 1 + (item t p).below) then Enter (m + 1 + (item t m).below) else Leave p))
    (is_same m root e)

-- after an element below the root is left, the walk enters the element after it, or leaves its parent
pub behind_inner : (t : Tree) (root m p : ℕ) → root < m → behind t root m (Some p)
    ≡ (if nat_lt (m + 1 + (item t m).below) (p + 1 + (item t p).below) then Enter (m + 1 + (item t m).below) else Leave p)
behind_inner t root m p l =
    ap (λ b. if b then Done else (if nat_lt (m + 1 + (item t m).below) (p + 1 + (item t p).below) then Enter (m + 1 + (item t m).below) else Leave p))
    (is_above m root l)

-- an element below the root of a part has its parent in the part
inner_step : (root s : ℕ) (p : Option ℕ) (part : Forest) (m : ℕ) → IsOne part → root < m → m < root + element_count part → LeavesInside root s p part m
inner_step root s p _ m (one_leaf k u) l h = absurd (omega arith)
inner_step root s p _ m (one_node k c) l h =
    elim (leave_step (root + 1) s (Some root) c m (omega arith) (omega arith)) [
      | inl x ↦ inside_top root s p k c empty m l (omega arith) x
      | inr x ↦ inside_inside root s p k c empty m l (omega arith) x
    ]

-- the event that leaves an element
pub leaves : (t : Tree) (root m : ℕ) → root < length (items_of t) → IsInside t root m → Goes t root (Leave m) (false, m) (after_leave t root m)
leaves t root m there inside =
    elim (cases_lt root m) [ inl low ↦ inner low | inr high ↦ outer (let l : root ≤ m = inside.low in omega arith) ]
  where
    outer : m ≡ root → Goes t root (Leave m) (false, m) (after_leave t root m)
    outer e =
        let part = part_at record { tree = t; number = root } in
        let done : after_leave t root m ≡ Done = behind_root t root m (item t m).parent e in
        record {
          step_is =
              ap (λ j. from_leave j root part) e ∙ leaves_root t root part (one_there t root there)
              ∙ ap (λ j. (false, j) ∷ []) (sym e) ∙ ap (λ x. (false, m) ∷ steps_remaining t root x) (sym done);
          within = subst (λ (x : Next). IsNextWithin t root x) (sym done) tt;
        }

    inner : root < m → Goes t root (Leave m) (false, m) (after_leave t root m)
    inner low =
        let part = part_at record { tree = t; number = root } in
        let h : IsPart 0 root part (items_of t) = part_there t root there in
        let count : element_count part ≡ suc (item t root).below = below_of_part t root part h (one_there t root there) in
        let high : m < root + 1 + (item t root).below = inside.high in
        let w : LeavesInside root h.start h.parent part m = inner_step root h.start h.parent part m (one_there t root there) low (omega arith) in
        let i : item t m ≡ at root h.start h.parent part m = item_of_part t root m part h (omega arith) (omega arith) in
        let outer_low : root ≤ w.outer = w.low in
        let outer_high : w.outer < m = w.high in
        let o : item t w.outer ≡ at root h.start h.parent part w.outer = item_of_part t root w.outer part h w.low (omega arith) in
        let parent : (item t m).parent ≡ Some w.outer = ap (λ x. x.parent) i ∙ w.parent in
        let q = w.outer in
        let next = m + 1 + (item t m).below in
        let go : after_leave t root m ≡ (if nat_lt next (q + 1 + (item t q).below) then Enter next else Leave q) =
        ap (λ x. behind t root m x) parent ∙ behind_inner t root m q low in
        let here : m < length (items_of t) = inside.there in
        let fits : q - root + 1 + (at root h.start h.parent part q).below ≤ element_count part =
        below_fits root h.start h.parent part (q - root) (omega arith) in
        let same : (item t q).below ≡ (at root h.start h.parent part q).below = ap (λ x. x.below) o in
        let outer_there : q + 1 + (item t q).below ≤ length (items_of t) = next_inside t q (omega arith) in
        record {
          step_is =
              w.step
              ∙ ap (λ x. (false, m) ∷ (if nat_lt (m + 1 + x.below) (q + 1 + (at root h.start h.parent part q).below) then from_enter
              (m + 1 + x.below) root part else from_leave q root part)) (sym i)
              ∙ ap (λ x. (false, m) ∷ (if nat_lt next (q + 1 + x.below) then from_enter next root part else from_leave q root part)) (sym o)
              ∙ ap (λ x. (false, m) ∷ x)
              (sym (split_choice (nat_lt next (q + 1 + (item t q).below)) (Enter next) (Leave q) _ _ (steps_remaining t root) refl refl))
              ∙ ap (λ x. (false, m) ∷ steps_remaining t root x) (sym go);
          within =
              subst (λ (x : Next). IsNextWithin t root x) (sym go)
              (choose (nat_lt next (q + 1 + (item t q).below)) refl next q
              (λ g. let l : next < q + 1 + (item t q).below = below_true _ _ g in record { low = omega arith; high = omega arith; there = omega arith })
              (record { low = w.low; high = omega arith; there = omega arith }));
        }
      where
        choose : {c : Bool} (b : Bool) → c ≡ b → (x q : ℕ) → (c ≡ true → IsInside t root x) → IsInside t root q
            → IsNextWithin t root (if b then Enter x else Leave q)
        choose true e x q f g = f e
        choose false e x q f g = g

-- a walk from its root on is the whole walk
pub whole_walk : (t : Tree) (root : ℕ) → root < length (items_of t)
    → from_enter root root (part_at record { tree = t; number = root }) ≡ steps_from root (part_at record { tree = t; number = root })
whole_walk t root l = one (part_at record { tree = t; number = root }) (one_there t root l)
  where
    one : (part : Forest) → IsOne part → from_enter root root part ≡ steps_from root part
    one _ (one_leaf k u) = enter_here root root (leaf k u empty) refl (omega arith)
    one _ (one_node k c) = enter_here root root (node k c empty) refl (omega arith)
