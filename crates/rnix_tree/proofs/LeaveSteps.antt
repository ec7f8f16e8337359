-- What follows when a walk over a forest leaves an element.
use Rattle.std.proofs.Common.{◌≡◌, ℕ, ◌+◌, ◌-◌, ◌≤◌, ◌<◌, nat_lt, [], ◌∷◌, ◌++◌, length, false, Option, Some, refl, ap, sym, ◌∙◌, subst, arith, ◌⊎◌, inl, inr}
use Rattle.{std.{proofs.lemmas.Bool.cases_lt, specs.Prelude.if◌then◌else◌}, rnix_kinds.specs.declared.kinds.SyntaxKind.SyntaxKind}
use Rattle.rnix_green.{specs.{Forest.{Forest, empty, leaf, node, text_of, element_count}, Walk.steps_from}, proofs.NumberTests.{below_true, below_false}}
use Rattle.{rnix_green.proofs.{NumberTests.same_choice, SiblingLemmas.below_fits}, rnix_tree.{specs.Cursor.{from_enter, from_leave}, proofs.WalkSiblings.at}}
use Rattle.rnix_tree.proofs.WalkSiblings.{at_inside, at_behind, at_next, at_first, enter_inside, enter_behind, enter_next, enter_here, leave_inside, leave_behind}
use Rattle.rnix_tree.proofs.WalkSiblings.{leave_next, leave_leaf, leave_node, none_from_count, append_choice, either}

-- what follows when the walk leaves one of the trees of the forest
pub record LeavesTop (n s : ℕ) (p : Option ℕ) (f : Forest) (m : ℕ) : Type 0 where
  pub parent : (at n s p f m).parent ≡ p
  pub step : from_leave m n f
      ≡ (false, m) ∷ (if nat_lt (m + 1 + (at n s p f m).below) (n + element_count f) then from_enter (m + 1 + (at n s p f m).below) n f else [])

-- what follows when the walk leaves an element with a parent in the forest
pub record LeavesInside (n s : ℕ) (p : Option ℕ) (f : Forest) (m : ℕ) : Type 0 where
  pub outer : ℕ
  pub parent : (at n s p f m).parent ≡ Some outer
  pub low : n ≤ outer
  pub high : outer < m
  pub step : from_leave m n f
      ≡ (false, m) ∷ (if nat_lt (m + 1 + (at n s p f m).below) (outer + 1 + (at n s p f outer).below)
      then from_enter (m + 1 + (at n s p f m).below) n f else from_leave outer n f)

-- the same forest, after other trees
record IsLater (n s n' s' : ℕ) (p : Option ℕ) (g f : Forest) : Type 0 where
  pub start : n < n'
  pub ends : n' + element_count f ≡ n + element_count g
  pub items : (m : ℕ) → n' ≤ m → at n s p g m ≡ at n' s' p f m
  pub enters : (m : ℕ) → n' ≤ m → from_enter m n g ≡ from_enter m n' f
  pub leaves : (m : ℕ) → n' ≤ m → from_leave m n g ≡ from_leave m n' f

later_top : (n s n' s' : ℕ) (p : Option ℕ) (g f : Forest) (m : ℕ) → IsLater n s n' s' p g f → n' ≤ m → LeavesTop n' s' p f m → LeavesTop n s p g m
later_top n s n' s' p g f m a l h =
    let i = a.items m l in
    let start : n < n' = a.start in
    record {
      parent = ap (λ x. x.parent) i ∙ h.parent;
      step =
          a.leaves m l ∙ h.step
          ∙ ap (λ x. (false, m) ∷ (if nat_lt (m + 1 + x.below) (n' + element_count f) then from_enter (m + 1 + x.below) n' f else [])) (sym i)
          ∙ ap (λ x. (false, m) ∷ (if nat_lt (m + 1 + (at n s p g m).below) x then from_enter (m + 1 + (at n s p g m).below) n' f else [])) a.ends
          ∙ ap (λ x. (false, m) ∷ (if nat_lt (m + 1 + (at n s p g m).below) (n + element_count g) then x else []))
          (sym (a.enters (m + 1 + (at n s p g m).below) (omega arith)));
    }

later_inside : (n s n' s' : ℕ) (p : Option ℕ) (g f : Forest) (m : ℕ) → IsLater n s n' s' p g f → n' ≤ m → LeavesInside n' s' p f m → LeavesInside n s p g m
later_inside n s n' s' p g f m a l h =
    let i = a.items m l in
    let o = a.items h.outer h.low in
    let start : n < n' = a.start in
    let low : n' ≤ h.outer = h.low in
    record {
      outer = h.outer;
      parent = ap (λ x. x.parent) i ∙ h.parent;
      low = omega arith;
      high = h.high;
      step =
          a.leaves m l ∙ h.step
          ∙ ap (λ x. (false, m) ∷ (if nat_lt (m + 1 + x.below) (h.outer + 1 + (at n' s' p f h.outer).below) then from_enter
          (m + 1 + x.below) n' f else from_leave h.outer n' f)) (sym i)
          ∙ ap (λ x. (false, m) ∷ (if nat_lt (m + 1 + (at n s p g m).below) (h.outer + 1 + x.below) then from_enter
          (m + 1 + (at n s p g m).below) n' f else from_leave h.outer n' f)) (sym o)
          ∙ ap (λ x. (false, m) ∷ (if nat_lt (m + 1 + (at n s p g m).below) (h.outer + 1 + (at n s p g h.outer).below) then x else from_leave h.outer n' f))
          (sym (a.enters (m + 1 + (at n s p g m).below) (omega arith)))
          ∙ ap (λ x. (false, m) ∷ (if nat_lt (m + 1 + (at n s p g m).below) (h.outer + 1 + (at n s p g h.outer).below) then from_enter
          (m + 1 + (at n s p g m).below) n g else x)) (sym (a.leaves h.outer h.low));
    }

-- leaving a child of a node
pub inside_top : (n s : ℕ) (p : Option ℕ) (k : SyntaxKind) (c f : Forest) (m : ℕ) → n < m → m < n + 1 + element_count c → LeavesTop (n + 1) s (Some n) c m
    → LeavesInside n s p (node k c f) m
inside_top n s p k c f m l u h =
    let tail = (false, n) ∷ steps_from (n + 1 + element_count c) f in
    let i = at_inside n s p k c f m l u in
    let b : (at n s p (node k c f) n).below ≡ element_count c = ap (λ x. x.below) (at_first n s p (node k c f) _ _ refl) in
    let next = m + 1 + (at n s p (node k c f) m).below in
    record {
      outer = n;
      parent = ap (λ x. x.parent) i ∙ h.parent;
      low = omega arith;
      high = l;
      step =
          leave_inside m n k c f l u ∙ ap (λ x. x ++ tail) h.step
          ∙ ap (λ x. (false, m) ∷ ((if nat_lt (m + 1 + x.below) (n + 1 + element_count c) then from_enter (m + 1 + x.below) (n + 1) c else []) ++ tail)) (sym i)
          ∙ ap (λ x. (false, m) ∷ x) (append_choice (nat_lt next (n + 1 + element_count c)) (from_enter next (n + 1) c) [] tail)
          ∙ ap (λ x. (false, m) ∷ (if nat_lt next (n + 1 + x) then from_enter next (n + 1) c ++ tail else tail)) (sym b)
          ∙ ap (λ x. (false, m) ∷ x)
          (same_choice (nat_lt next (n + 1 + (at n s p (node k c f) n).below)) _ _ _ _
          (λ g. let low : next < n + 1 + (at n s p (node k c f) n).below = below_true next _ g in sym (enter_inside next n k c f (omega arith) (omega arith)))
          (λ _. sym (leave_node n n k c f refl)));
    }

-- leaving an element deeper inside a node
pub inside_inside : (n s : ℕ) (p : Option ℕ) (k : SyntaxKind) (c f : Forest) (m : ℕ) → n < m → m < n + 1 + element_count c → LeavesInside (n + 1) s (Some n) c m
    → LeavesInside n s p (node k c f) m
inside_inside n s p k c f m l u h =
    let tail = (false, n) ∷ steps_from (n + 1 + element_count c) f in
    let i = at_inside n s p k c f m l u in
    let low : n + 1 ≤ h.outer = h.low in
    let high : h.outer < m = h.high in
    let o = at_inside n s p k c f h.outer (omega arith) (omega arith) in
    let next = m + 1 + (at n s p (node k c f) m).below in
    let fits : h.outer - (n + 1) + 1 + (at (n + 1) s (Some n) c h.outer).below ≤ element_count c =
    below_fits (n + 1) s (Some n) c (h.outer - (n + 1)) (omega arith) in
    record {
      outer = h.outer;
      parent = ap (λ x. x.parent) i ∙ h.parent;
      low = omega arith;
      high = h.high;
      step =
          leave_inside m n k c f l u ∙ ap (λ x. x ++ tail) h.step
          ∙ ap (λ x. (false, m) ∷ ((if nat_lt (m + 1 + x.below) (h.outer + 1 + (at (n + 1) s (Some n) c h.outer).below) then from_enter (m + 1 + x.below)
          (n + 1) c else from_leave h.outer (n + 1) c) ++ tail)) (sym i)
          ∙ ap (λ x. (false, m) ∷ ((if nat_lt next (h.outer + 1 + x.below) then from_enter next (n + 1) c else from_leave h.outer (n + 1) c) ++ tail)) (sym o)
          ∙ ap (λ x. (false, m) ∷ x) (append_choice (nat_lt next (h.outer + 1 + (at n s p (node k c f) h.outer).below)) (from_enter next (n + 1) c)
          (from_leave h.outer (n + 1) c) tail)
          ∙ ap (λ x. (false, m) ∷ x)
          (same_choice (nat_lt next (h.outer + 1 + (at n s p (node k c f) h.outer).below)) _ _ _ _
          (λ g. let before : next < h.outer + 1 + (at n s p (node k c f) h.outer).below = below_true next _ g in
          let same : (at n s p (node k c f) h.outer).below ≡ (at (n + 1) s (Some n) c h.outer).below = ap (λ x. x.below) o in
          sym (enter_inside next n k c f (omega arith) (omega arith)))
          (λ _. sym (leave_inside h.outer n k c f (omega arith) (omega arith))));
    }

-- after the first tree of a forest is left, the trees after it follow
first_remaining : (n n' s : ℕ) (p : Option ℕ) (g f : Forest) (b : ℕ) → (at n s p g n).below ≡ b → n + 1 + b ≡ n' → n' + element_count f ≡ n + element_count g
    → (0 < element_count f → from_enter n' n g ≡ steps_from n' f)
    → steps_from n' f ≡ (if nat_lt (n + 1 + (at n s p g n).below) (n + element_count g) then from_enter (n + 1 + (at n s p g n).below) n g else [])
first_remaining n n' s p g f b e d ends enters =
    let next : n + 1 + (at n s p g n).below ≡ n' = ap (λ x. n + 1 + x) e ∙ d in
    either (nat_lt (n + 1 + (at n s p g n).below) (n + element_count g)) _ _ _
    (λ h. let l : n + 1 + (at n s p g n).below < n + element_count g = below_true _ _ h in
    sym (ap (λ x. from_enter x n g) next ∙ enters (omega arith)))
    (λ h. let l : n + element_count g ≤ n + 1 + (at n s p g n).below = below_false _ _ h in none_from_count f n' (omega arith))

-- leaving any element of a forest
pub leave_step : (n s : ℕ) (p : Option ℕ) (f : Forest) (m : ℕ) → n ≤ m → m < n + element_count f → LeavesTop n s p f m ⊎ LeavesInside n s p f m
leave_step n s p empty m l h = absurd (omega arith)
leave_step n s p (leaf k t f) m l h =
    elim (cases_lt n m) [
      | inl low ↦
          let a : IsLater n s (n + 1) (s + length t) p (leaf k t f) f = record {
            start = omega arith;
            ends = omega arith;
            items = λ j u. at_next n s p k t f j (omega arith);
            enters = λ j u. enter_next j n k t f (omega arith);
            leaves = λ j u. leave_next j n k t f (omega arith);
          } in
          elim (leave_step (n + 1) (s + length t) p f m (omega arith) (omega arith)) [
            | inl x ↦ inl (later_top n s (n + 1) (s + length t) p (leaf k t f) f m a (omega arith) x)
            | inr x ↦ inr (later_inside n s (n + 1) (s + length t) p (leaf k t f) f m a (omega arith) x)
          ]
      | inr high ↦
          let e : m ≡ n = omega arith in
          let first = at_first n s p (leaf k t f) _ _ refl in
          inl (subst (λ (x : ℕ). LeavesTop n s p (leaf k t f) x) (sym e) (record {
            parent = ap (λ i. i.parent) first;
            step =
                leave_leaf n n k t f refl
                ∙ ap (λ x. (false, n) ∷ x)
                (first_remaining n (n + 1) s p (leaf k t f) f 0 (ap (λ i. i.below) first) (omega arith) (omega arith)
                (λ some. enter_next (n + 1) n k t f (omega arith) ∙ enter_here (n + 1) (n + 1) f refl some));
          }))
    ]
leave_step n s p (node k c f) m l h =
    elim (cases_lt n m) [
      | inl low ↦
          elim (cases_lt m (n + 1 + element_count c)) [
            | inl inside ↦
                elim (leave_step (n + 1) s (Some n) c m (omega arith) (omega arith)) [
                  | inl x ↦ inr (inside_top n s p k c f m low inside x)
                  | inr x ↦ inr (inside_inside n s p k c f m low inside x)
                ]
            | inr outside ↦
                let a : IsLater n s (n + 1 + element_count c) (s + length (text_of c)) p (node k c f) f = record {
                  start = omega arith;
                  ends = omega arith;
                  items = λ j u. at_behind n s p k c f j u;
                  enters = λ j u. enter_behind j n k c f u;
                  leaves = λ j u. leave_behind j n k c f u;
                } in
                elim (leave_step (n + 1 + element_count c) (s + length (text_of c)) p f m outside (omega arith)) [
                  | inl x ↦ inl (later_top n s (n + 1 + element_count c) (s + length (text_of c)) p (node k c f) f m a outside x)
                  | inr x ↦ inr (later_inside n s (n + 1 + element_count c) (s + length (text_of c)) p (node k c f) f m a outside x)
                ]
          ]
      | inr high ↦
          let e : m ≡ n = omega arith in
          let first = at_first n s p (node k c f) _ _ refl in
          inl (subst (λ (x : ℕ). LeavesTop n s p (node k c f) x) (sym e) (record {
            parent = ap (λ i. i.parent) first;
            step =
                leave_node n n k c f refl
                ∙ ap (λ x. (false, n) ∷ x)
                (first_remaining n (n + 1 + element_count c) s p (node k c f) f (element_count c) (ap (λ i. i.below) first) refl (omega arith)
                (λ some. enter_behind (n + 1 + element_count c) n k c f (omega arith)
                ∙ enter_here (n + 1 + element_count c) (n + 1 + element_count c) f refl some));
          }))
    ]
