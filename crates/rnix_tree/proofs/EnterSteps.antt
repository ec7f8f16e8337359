-- What follows when a walk over a forest enters an element.
use Rattle.std.proofs.Common.{◌≡◌, ℕ, ◌+◌, ◌-◌, ◌≤◌, ◌<◌, nat_lt, ◌∷◌, ◌++◌, length, true, false, Option, Some, refl, ap, sym, ◌∙◌, subst, arith, inl, inr}
use Rattle.{std.{proofs.lemmas.Bool.cases_lt, specs.Prelude.if◌then◌else◌}, rnix_green.specs.Forest.{Forest, empty, leaf, node, text_of, element_count}}
use Rattle.rnix_green.{specs.{Tree.Item, Walk.steps_from}, proofs.{NumberTests.{below_true, below_false, same_choice}, SiblingLemmas.below_fits}}
use Rattle.rnix_tree.{specs.Cursor.{from_enter, from_leave}, proofs.WalkSiblings.{at, at_inside, at_behind, at_next, at_first, enter_inside, enter_behind}}
use Rattle.rnix_tree.proofs.WalkSiblings.{enter_next, enter_here, leave_inside, leave_behind, leave_next, leave_leaf, leave_node, none_from_count, append_choice}
use Rattle.rnix_tree.proofs.WalkSiblings.{either}

-- the walk then enters what is inside the element, or leaves the element if nothing is
pub enter_step : (n s : ℕ) (p : Option ℕ) (f : Forest) (m : ℕ) → n ≤ m → m < n + element_count f
    → from_enter m n f ≡ (true, m) ∷ (if nat_lt 0 (at n s p f m).below then from_enter (m + 1) n f else from_leave m n f)
enter_step n s p empty m l h = absurd (omega arith)
enter_step n s p (leaf k t f) m l h =
    elim (cases_lt n m) [
      | inl low ↦
          let b : (at n s p (leaf k t f) m).below ≡ (at (n + 1) (s + length t) p f m).below = ap (λ i. i.below) (at_next n s p k t f m low) in
          enter_next m n k t f low ∙ enter_step (n + 1) (s + length t) p f m (omega arith) (omega arith)
          ∙ ap (λ j. (true, m) ∷ (if nat_lt 0 j then from_enter (m + 1) (n + 1) f else from_leave m (n + 1) f)) (sym b)
          ∙ ap (λ x. (true, m) ∷ x)
          (same_choice (nat_lt 0 (at n s p (leaf k t f) m).below) _ _ _ _ (λ _. sym (enter_next (m + 1) n k t f (omega arith)))
          (λ _. sym (leave_next m n k t f low)))
      | inr high ↦
          let e : m ≡ n = omega arith in
          let b : (at n s p (leaf k t f) m).below ≡ 0 =
          ap (λ j. (at n s p (leaf k t f) j).below) e ∙ ap (λ i. i.below) (at_first n s p (leaf k t f) _ _ refl) in
          enter_here m n (leaf k t f) e (omega arith)
          ∙ ap (λ j. (true, j) ∷ ((false, n) ∷ steps_from (n + 1) f)) (sym e)
          ∙ ap (λ x. (true, m) ∷ x) (sym (leave_leaf m n k t f e))
          ∙ ap (λ j. (true, m) ∷ (if nat_lt 0 j then from_enter (m + 1) n (leaf k t f) else from_leave m n (leaf k t f))) (sym b)
    ]
enter_step n s p (node k c f) m l h =
    let tail = (false, n) ∷ steps_from (n + 1 + element_count c) f in
    elim (cases_lt n m) [
      | inl low ↦
          elim (cases_lt m (n + 1 + element_count c)) [
            | inl inside ↦
                let i : at n s p (node k c f) m ≡ at (n + 1) s (Some n) c m = at_inside n s p k c f m low inside in
                let d : m - (n + 1) < element_count c = omega arith in
                let fits : m - (n + 1) + 1 + (at (n + 1) s (Some n) c m).below ≤ element_count c = below_fits (n + 1) s (Some n) c (m - (n + 1)) d in
                enter_inside m n k c f low inside
                ∙ ap (λ x. x ++ tail) (enter_step (n + 1) s (Some n) c m (omega arith) (omega arith))
                ∙ ap (λ j. (true, m) ∷ ((if nat_lt 0 j.below then from_enter (m + 1) (n + 1) c else from_leave m (n + 1) c) ++ tail)) (sym i)
                ∙ ap (λ x. (true, m) ∷ x)
                (append_choice (nat_lt 0 (at n s p (node k c f) m).below) _ _ tail
                ∙ same_choice (nat_lt 0 (at n s p (node k c f) m).below) _ _ _ _
                (λ g. let some : 0 < (at n s p (node k c f) m).below = below_true 0 _ g in
                let some' : 0 < (at (n + 1) s (Some n) c m).below = subst (λ (x : Item). 0 < x.below) i some in
                sym (enter_inside (m + 1) n k c f (omega arith) (omega arith)))
                (λ _. sym (leave_inside m n k c f low inside)))
            | inr outside ↦
                let i : at n s p (node k c f) m ≡ at (n + 1 + element_count c) (s + length (text_of c)) p f m = at_behind n s p k c f m outside in
                enter_behind m n k c f outside
                ∙ enter_step (n + 1 + element_count c) (s + length (text_of c)) p f m outside (omega arith)
                ∙ ap (λ j. (true, m) ∷ (if nat_lt 0 j.below then from_enter (m + 1) (n + 1 + element_count c) f else from_leave m (n + 1 + element_count c) f))
                (sym i)
                ∙ ap (λ x. (true, m) ∷ x)
                (same_choice (nat_lt 0 (at n s p (node k c f) m).below) _ _ _ _ (λ _. sym (enter_behind (m + 1) n k c f (omega arith)))
                (λ _. sym (leave_behind m n k c f outside)))
          ]
      | inr high ↦
          let e : m ≡ n = omega arith in
          let b : (at n s p (node k c f) m).below ≡ element_count c =
          ap (λ j. (at n s p (node k c f) j).below) e ∙ ap (λ i. i.below) (at_first n s p (node k c f) _ _ refl) in
          enter_here m n (node k c f) e (omega arith)
          ∙ ap (λ j. (true, j) ∷ (steps_from (n + 1) c ++ tail)) (sym e)
          ∙ ap (λ x. (true, m) ∷ x)
          (either (nat_lt 0 (at n s p (node k c f) m).below) (steps_from (n + 1) c ++ tail) _ _
          (λ g. let some : 0 < (at n s p (node k c f) m).below = below_true 0 _ g in
          let some' : 0 < element_count c = omega arith in
          sym (enter_inside (m + 1) n k c f (omega arith) (omega arith) ∙ ap (λ x. x ++ tail) (enter_here (m + 1) (n + 1) c (omega arith) some')))
          (λ g. let none : (at n s p (node k c f) m).below ≤ 0 = below_false 0 _ g in
          ap (λ x. x ++ tail) (none_from_count c (n + 1) (omega arith)) ∙ sym (leave_node m n k c f e)))
    ]
