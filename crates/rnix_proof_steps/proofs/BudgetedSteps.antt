-- Each step uses up two of the budget.
use Rattle.std.proofs.Common.{◌≡◌, ◌≤◌, ◌<◌, ℕ, suc, ◌+◌, ◌*◌, Bool, true, false, List, [], ◌∷◌, Some, None, max, if◌then◌else◌, nat_le, nat_eq, refl, ap, sym, ◌∙◌, subst, arith}
use Rattle.rnix_kinds.specs.declared.kinds.SyntaxKind.TheVariants.{NODE_APPLY}
use Rattle.rnix_grammar.specs.declared.{position.Position.Position, expected_set.ExpectedSet.ExpectedSet, action.Action.Action, slot_table.TheConstants.{APPLIED, PAT_ENTRY, SECOND_BIND}}
use Rattle.rnix_grammar.specs.{Fault.Fault, Tables.{stops, is_wanted, depth_limit}, Actions.action_at, OperandStarts.{operand_start_of, second_kind}, UnwantedRun.run_of}
use Rattle.rnix_grammar.specs.{AnnotatedForest.{Token, AnnotatedForest, blank, head_kind, touches}, Layout.{items, tail_of}}
use Rattle.rnix_proof_lemmas.specs.Machine.{Head, Node, Operand, Frame, Machine, put, opened, with_leading, after_item, run_rest, dropped, min_bp_of, closed as completed}
use Rattle.rnix_proof_lemmas.specs.Machine.{entry_closed, limited, operand_on, reading, perform}
use Rattle.rnix_proof_lemmas.specs.{Measures.measure, FrameKinds.{FrameKind, Root, IsStackedOn, frame_kind}, Allowed.{Allowed, IsNext, is_there}}
use Rattle.rnix_proof_lemmas.proofs.{Basics.true_is_not_false, AllowedLemmas.allowed, StackedFrames.operand_start_inner, LayoutLemmas.items-from_item}
use Rattle.rnix_proof_lemmas.proofs.{UnwantedRuns.{dropped_all, run_begins}, WithoutTriviaLemmas.{items_behind, run_prefix, all_prefix, run_bared}}
use Rattle.rnix_proof_steps.specs.StepCount.{is_finish}
use Rattle.rnix_proof_steps.proofs.StepBounds.{per_item, per_level, room, room_inside, held, closing, last, AreAtMost, closes, operand, operand_closed, reads, applies}
use Rattle.rnix_proof_steps.proofs.{BoundedActions.{bounds, bounded}, BoundedOperands.begun_bounded, Budgets.{ends, pays, IsEnough, Enough, measure_some, closed_enough, moved_enough, pushed_enough, opened_enough}}
use Rattle.rnix_proof_steps.proofs.BudgetedOperands.{Awaits, begun_enough}
use Rattle.rnix_grammar.specs.declared.position.Position.TheVariants as p
use Rattle.rnix_grammar.specs.declared.action.Action.TheVariants as a

-- the positions of the root
abbrev pub is_root : FrameKind → Bool
is_root Root = true
is_root s = false

-- the items after a run pay no more than all items
dropped_pays : (levels : Bool) (run us : List Token) → pays levels (dropped run us) ≤ pays levels us
dropped_pays levels [] us = omega arith
dropped_pays levels (x ∷ run) [] = dropped_pays levels run []
dropped_pays levels (x ∷ run) (t ∷ us) = omega (arith, dropped_pays levels run us)

run_pays : (levels : Bool) (until : ExpectedSet) (t : Token) (us : List Token) → is_wanted until t.kind ≡ false
    → pays levels (dropped (run_of until (t ∷ us)) (t ∷ us)) ≤ pays levels us
run_pays levels until t us e =
    omega (arith, dropped_pays levels (run_of until us) us, ap (λ run. pays levels (dropped run (t ∷ us))) (run_begins until t us e))

remaining_run : (until : ExpectedSet) (ts : List Token) → items (run_rest true (run_of until (items ts)) ts) ≡ dropped (run_of until (items ts)) (items ts)
remaining_run until ts = (run_bared (run_of until (items ts)) ts (dropped (run_of until (items ts)) (items ts)) (run_prefix until (items ts))).remaining

remaining_none : (ts : List Token) → items (run_rest true (items ts) ts) ≡ []
remaining_none ts = (run_bared (items ts) ts (dropped (items ts) (items ts)) (all_prefix (items ts))).remaining ∙ dropped_all (items ts)

-- the budget covers the frames and the items that a machine has left
abbrev pub Leaves : Bool → ℕ → Machine → Type 0
Leaves levels c m = Enough levels c (items m.remaining) m.frames

module _ (levels : Bool) (c : ℕ) (f : Frame) (ts : List Token) (n : ℕ) where
  -- when a frame is complete, the budget covers the frame below it, and there is one
  completed_leaves : (t : Token) (us : List Token) (fs : List Frame) (es : List Fault) → items ts ≡ t ∷ us → IsStackedOn f.head f.position fs
      → is_root (frame_kind f.position) ≡ false
      → AreAtMost (closes levels f.position) → IsEnough levels (2 + c) us f fs → Leaves levels c (completed f fs ts n es)
  completed_leaves t us [] es q w r b e = absurd (true_is_not_false (sym (ap is_root w.1) ∙ r))
  completed_leaves t us (g ∷ gs) es q w r b e =
      subst (λ xs. Enough levels c xs (completed f (g ∷ gs) ts n es).frames) (sym q) (closed_enough levels c us f g gs _ b e)

  entry_leaves : (t : Token) (us : List Token) (fs : List Frame) (es : List Fault) → items ts ≡ t ∷ us → IsStackedOn f.head f.position fs
      → is_root (frame_kind f.position) ≡ false
      → AreAtMost (closes levels f.position) → IsEnough levels (2 + c) us f fs → Leaves levels c (entry_closed true f fs ts n es)
  entry_leaves t us [] es q w r b e = absurd (true_is_not_false (sym (ap is_root w.1) ∙ r))
  entry_leaves t us (g ∷ gs) es q w r b e = completed_leaves t us (g ∷ gs) es q w r b e

  -- the same at the end of the text
  completed_ends : (fs : List Frame) (es : List Fault) → items ts ≡ [] → IsStackedOn f.head f.position fs → is_root (frame_kind f.position) ≡ false
      → ends (f ∷ fs) ≤ 2 + c → Leaves levels c (completed f fs ts n es)
  completed_ends [] es q w r e = absurd (true_is_not_false (sym (ap is_root w.1) ∙ r))
  completed_ends (g ∷ gs) es q w r e =
      subst (λ xs. Enough levels c xs (completed f (g ∷ gs) ts n es).frames) (sym q) (omega (arith, e, measure_some f.position))

  entry_ends : (fs : List Frame) (es : List Fault) → items ts ≡ [] → IsStackedOn f.head f.position fs → is_root (frame_kind f.position) ≡ false
      → ends (f ∷ fs) ≤ 2 + c → Leaves levels c (entry_closed true f fs ts n es)
  entry_ends [] es q w r e = absurd (true_is_not_false (sym (ap is_root w.1) ∙ r))
  entry_ends (g ∷ gs) es q w r e = completed_ends (g ∷ gs) es q w r e

-- a frame waits for an operand, with the budget that covered its old position; the next item begins the operand
waits : (levels any counted : Bool) (c d : ℕ) (us : List Token) (f : Frame) (fs : List Frame) (y : Position) (head : Head) (trees : AnnotatedForest)
    → AreAtMost (reads levels any counted f.position y) → room levels f.depth ≡ (if counted then per_level levels else 0) + room levels d
    → IsEnough levels (2 + c) us f fs → Awaits levels any c us d (opened head y f.depth trees ∷ fs)
waits levels any counted c d us f fs y head trees b r e =
    let first : pays levels us + operand_closed levels + (held levels y + room levels f.depth + ends fs) ≤ per_item levels + c =
    omega (arith, b.1.0, e.last_in) in
    let second : pays levels us + operand_closed levels + (closing y + e.below) ≤ per_item levels + c = omega (arith, b.1.1.0, e.closed_in) in
    record {
      last_in = omega (arith, b.0, r, e.last_in);
      below = max (held levels y + room levels f.depth + ends fs) (closing y + e.below);
      closed_in = omega (arith, first, second);
      rest = (omega arith, (e.below, omega arith, e.rest));
      ended = omega (arith, b.1.1.1.0, r, e.last_in);
    }

-- the same for an argument, with an operand below the call
argument_waits : (levels : Bool) (c min_bp max_bp : ℕ) (us : List Token) (f : Frame) (fs : List Frame) (head other : Head) (inside trees : AnnotatedForest)
    → AreAtMost (applies levels f.position) → IsEnough levels (2 + c) us f fs
    → Awaits levels false c us f.depth (opened head (p.InRow APPLIED) f.depth inside ∷ (opened other (p.AfterOperand min_bp max_bp) f.depth trees ∷ fs))
argument_waits levels c min_bp max_bp us f fs head other inside trees b e =
    let ended : ℕ = held levels operand + room levels f.depth + ends fs in
    let done : ℕ = closing operand + e.below in
    let application : ℕ = held levels (p.InRow APPLIED) + room levels f.depth + (2 * measure operand + ends fs) in
    let next : ℕ = max ended done in
    let all : ℕ = pays levels us + operand_closed levels in
    let first : all + application ≤ per_item levels + c = omega (arith, b.1.0, e.last_in) in
    let second : all + (closing (p.InRow APPLIED) + ended) ≤ per_item levels + c = omega (arith, b.1.1.0, e.last_in) in
    let third : all + (closing (p.InRow APPLIED) + done) ≤ per_item levels + c = omega (arith, b.1.1.1.0, e.closed_in) in
    record {
      last_in = omega (arith, b.0, e.last_in);
      below = max application (closing (p.InRow APPLIED) + next);
      closed_in = omega (arith, first, second, third);
      rest = (omega arith, (next, omega arith, (omega arith, (e.below, omega arith, e.rest))));
      ended = omega (arith, b.1.1.1.1.0, e.last_in);
    }

-- an operand begins at the next item, if the limit is not reached
operand_leaves : (levels : Bool) (c level d : ℕ) (t : Token) (us : List Token) (f : Frame) (fs : List Frame) (ts xs : List Token) (n : ℕ) (es : List Fault)
    → items ts ≡ xs → xs ≡ t ∷ us → Awaits levels (nat_eq level 0) c us d (put f.position (with_leading true f.children ts) f ∷ fs)
    → Leaves levels c (operand_on true level d f fs ts xs n es)
operand_leaves levels c level d t us f fs ts [] n es q e w = absurd (cc)
operand_leaves levels c level d t us f fs ts (x ∷ xs) n es q e w =
    let rest : xs ≡ us = ap tail_of e in
    begun_enough levels (nat_eq level 0) (operand_start_of level x.kind x.text (head_kind xs) (second_kind xs)) c level d x x xs f fs ts n es q
    (operand_start_inner level x.kind x.text (head_kind xs) (second_kind xs))
    (begun_bounded levels level x.kind x.text (head_kind xs) (second_kind xs))
    (subst (λ us. Awaits levels (nat_eq level 0) c us d (put f.position (with_leading true f.children ts) f ∷ fs)) (sym rest) w)

module _ (levels : Bool) (c : ℕ) (f : Frame) (fs : List Frame) (ts : List Token) (n : ℕ) (es : List Fault) (w : IsStackedOn f.head f.position fs) where
  -- while an item is left
  module _ (t : Token) (us : List Token) (q : items ts ≡ t ∷ us) (e : IsEnough levels (2 + c) us f fs) where
    taken : pays levels (items (after_item true ts)) ≤ pays levels us
    taken = omega (arith, ap (pays levels) (items_behind ts ∙ ap tail_of q))

    there : head_kind (items ts) ≡ Some t.kind
    there = ap head_kind q

    none : {A : Type 0} → head_kind (items ts) ≡ None → A
    none h = absurd (true_is_not_false (ap is_there (sym there ∙ h)))

    -- everything that is left is put into one error node
    limited_leaves : (after : ℕ) → 2 + 2 * measure (p.InRow after) ≤ last levels f.position
        → Leaves levels c (limited true (put (p.InRow after) f.children f) fs ts n es)
    limited_leaves after h =
        subst (λ xs. Enough levels c xs (limited true (put (p.InRow after) f.children f) fs ts n es).frames)
        (sym (items-from_item (run_rest true (items ts) ts) ∙ remaining_none ts))
        (omega (arith, h, e.last_in))

    read_leaves : (level : ℕ) (counted : Bool) (after : ℕ) → AreAtMost (reads levels (nat_eq level 0) counted f.position (p.InRow after))
        → Leaves levels c (reading true level counted (put (p.InRow after) f.children f) fs ts n es)
    read_leaves level false after b =
        operand_leaves levels c level f.depth t us (put (p.InRow after) f.children f) fs ts (items ts) n es refl q
        (waits levels (nat_eq level 0) false c f.depth us f fs (p.InRow after) f.head _ b (omega arith) e)
    read_leaves level true after b = by (nat_le depth_limit f.depth) refl
      where
        by : (full : Bool) → nat_le depth_limit f.depth ≡ full
            → Leaves levels c (if full then limited true (put (p.InRow after) f.children f) fs ts n es else operand_on true level (suc f.depth)
            (put (p.InRow after) f.children f) fs ts (items ts) n es)
        by true x = limited_leaves after b.1.1.1.1.0
        by false x =
            operand_leaves levels c level (suc f.depth) t us (put (p.InRow after) f.children f) fs ts (items ts) n es refl q
            (waits levels (nat_eq level 0) true c (suc f.depth) us f fs (p.InRow after) f.head _ b (omega (arith, room_inside levels f.depth x)) e)

    pub action_leaves : (action : Action) → Allowed f.position (head_kind (items ts)) action → AreAtMost (bounds levels f.position action)
        → Leaves levels c (perform true action f fs ts n es)
    action_leaves a.Close al b = completed_leaves levels c f ts n t us fs es q w (ap is_root al.0) b e
    action_leaves a.ClosePattern al b = completed_leaves levels c f ts n t us fs es q w (ap is_root al) b e
    action_leaves a.CloseEntry al b = entry_leaves levels c f ts n t us fs es q w (ap is_root al) b e
    action_leaves a.CloseDoubleBind al b = completed_leaves levels c f ts n t us fs _ q w (ap is_root al) b e
    action_leaves a.EndOperand al b = completed_leaves levels c f ts n t us fs es q w (ap is_root al) b e
    action_leaves a.Finish al b = none al.1
    action_leaves (a.Miss after) al b = none al.0
    action_leaves (a.MissWanted until after) al b = none al.0
    action_leaves a.Extra al b =
        subst (λ xs. Enough levels c xs (perform true a.Extra f fs ts n es).frames) (sym (remaining_none ts)) (omega (arith, b.0, e.last_in))
    action_leaves (a.Take after) al b = moved_enough levels c us (items (after_item true ts)) f fs f.head (p.InRow after) _ b taken e
    action_leaves (a.Run until after) al b =
        let wanted : is_wanted until t.kind ≡ false = sym (ap (stops until) there) ∙ al.0 in
        let remaining : pays levels (items (run_rest true (run_of until (items ts)) ts)) ≤ pays levels us =
        omega (arith, run_pays levels until t us wanted, ap (pays levels) (remaining_run until ts ∙ ap (λ xs. dropped (run_of until xs) xs) q)) in
        moved_enough levels c us (items (run_rest true (run_of until (items ts)) ts)) f fs f.head (p.InRow after) _ b remaining e
    action_leaves (a.Leaf k after) al b = moved_enough levels c us (items (after_item true ts)) f fs f.head (p.InRow after) _ b taken e
    action_leaves (a.Open k inside after) al b =
        opened_enough levels c us (items (after_item true ts)) f fs (Node k) f.head (p.InRow inside) (p.InRow after) _ _ b taken e
    action_leaves (a.OpenEmpty k inside after) al b =
        subst (λ xs. Enough levels c xs (perform true (a.OpenEmpty k inside after) f fs ts n es).frames) (sym (items-from_item ts ∙ q))
        (pushed_enough levels c 0 us us f fs (Node k) f.head (p.InRow inside) (p.InRow after) _ _ b (omega arith) e)
    action_leaves (a.Entry after) al b =
        opened_enough levels c us (items (after_item true ts)) f fs _ f.head (p.InRow PAT_ENTRY) (p.InRow after) _ _ b taken e
    action_leaves (a.DoubleBind after) al b =
        opened_enough levels c us (items (after_item true ts)) f fs _ f.head (p.InRow SECOND_BIND) (p.InRow after) _ _ b taken e
    action_leaves (a.Read level counted after) al b = read_leaves level counted after b
    action_leaves (a.Wrap k inside max_bp) al b =
        opened_enough levels c us (items (after_item true ts)) f fs (Node k) Operand inside (p.AfterOperand (min_bp_of f.position) max_bp) _ _ b taken e
    action_leaves a.Apply al b =
        operand_leaves levels c 16 f.depth t us (opened (Node NODE_APPLY) (p.InRow APPLIED) f.depth f.children)
        (opened Operand (p.AfterOperand (min_bp_of f.position) 15) f.depth blank ∷ fs) ts (items ts) n es refl q
        (argument_waits levels c (min_bp_of f.position) 15 us f fs (Node NODE_APPLY) Operand _ blank b e)
    action_leaves a.ApplyOr al b =
        moved_enough levels c us (items (after_item true ts)) f fs Operand (p.AfterOperand (min_bp_of f.position) 15) _ b taken e

  -- at the end of the text
  module _ (q : items ts ≡ []) (e : ends (f ∷ fs) ≤ 2 + c) where
    missing : head_kind (items ts) ≡ None
    missing = ap head_kind q

    some : {A : Type 0} → is_there (head_kind (items ts)) ≡ true → A
    some h = absurd (true_is_not_false (sym h ∙ ap is_there missing))

    -- each step brings a row nearer to its end
    nearer : (after : ℕ) → IsNext f.position (head_kind (items ts)) after → measure (p.InRow after) < measure f.position
    nearer after h = (subst (λ next. IsNext f.position next after) missing h).1

    next_ends : (after : ℕ) (trees : AnnotatedForest) → IsNext f.position (head_kind (items ts)) after
        → Enough levels c (items ts) (opened f.head (p.InRow after) f.depth trees ∷ fs)
    next_ends after trees h =
        subst (λ xs. Enough levels c xs (opened f.head (p.InRow after) f.depth trees ∷ fs)) (sym q) (omega (arith, e, nearer after h))

    operand_ends : (level d : ℕ) (g : Frame) (xs : List Token) → xs ≡ [] → Enough levels c (items ts) (g ∷ fs)
        → Leaves levels c (operand_on true level d g fs ts xs n es)
    operand_ends level d g [] x h = h
    operand_ends level d g (u ∷ us) x h = absurd (cc)

    read_ends : (level : ℕ) (counted : Bool) (after : ℕ) → IsNext f.position (head_kind (items ts)) after
        → Leaves levels c (reading true level counted (put (p.InRow after) f.children f) fs ts n es)
    read_ends level false after h =
        operand_ends level f.depth (put (p.InRow after) f.children f) (items ts) q (next_ends after f.children h)
    read_ends level true after h =
        let full : Leaves levels c (limited true (put (p.InRow after) f.children f) fs ts n es) =
        subst (λ xs. Enough levels c xs (limited true (put (p.InRow after) f.children f) fs ts n es).frames)
        (sym (items-from_item (run_rest true (items ts) ts) ∙ remaining_none ts)) (omega (arith, e, nearer after h)) in
        elim (nat_le depth_limit f.depth) as
        (λ x. Leaves levels c (if x then limited true (put (p.InRow after) f.children f) fs ts n es else operand_on true level
        (suc f.depth) (put (p.InRow after) f.children f) fs ts (items ts) n es))
        [ true ↦ full | false ↦ operand_ends level (suc f.depth) (put (p.InRow after) f.children f) (items ts) q (next_ends after f.children h) ]

    pub action_ends : (action : Action) → Allowed f.position (head_kind (items ts)) action → is_finish action ≡ false
        → Leaves levels c (perform true action f fs ts n es)
    action_ends a.Close al g = completed_ends levels c f ts n fs es q w (ap is_root al.0) e
    action_ends a.ClosePattern al g = completed_ends levels c f ts n fs es q w (ap is_root al) e
    action_ends a.CloseEntry al g = entry_ends levels c f ts n fs es q w (ap is_root al) e
    action_ends a.CloseDoubleBind al g = completed_ends levels c f ts n fs _ q w (ap is_root al) e
    action_ends a.EndOperand al g = completed_ends levels c f ts n fs es q w (ap is_root al) e
    action_ends a.Finish al g = absurd (true_is_not_false g)
    action_ends (a.Miss after) al g = next_ends after f.children al.1
    action_ends (a.MissWanted until after) al g = next_ends after f.children al.1
    action_ends a.Extra al g = some al.0
    action_ends (a.Take after) al g = some al.0
    action_ends (a.Run until after) al g = absurd (true_is_not_false (sym (ap (stops until) missing) ∙ al.0))
    action_ends (a.Leaf k after) al g = some al.0
    action_ends (a.Open k inside after) al g = some al.0
    action_ends (a.OpenEmpty k inside after) al g =
        let less : measure (p.InRow inside) + measure (p.InRow after) < measure f.position = al.6 missing in
        subst (λ xs. Enough levels c xs (perform true (a.OpenEmpty k inside after) f fs ts n es).frames) (sym (items-from_item ts ∙ q)) (omega (arith, e, less))
    action_ends (a.Entry after) al g = some (ap is_there al.0)
    action_ends (a.DoubleBind after) al g = some al.0
    action_ends (a.Read level counted after) al g = read_ends level counted after al.0
    action_ends (a.Wrap k inside max_bp) al g = some al.0
    action_ends a.Apply al g = some al.0
    action_ends a.ApplyOr al g = some al.0

  -- so after each step the rest of the budget covers what is left
  pub step_leaves : Enough levels (2 + c) (items ts) (f ∷ fs) → is_finish (action_at f.position (head_kind (items ts)) (touches n (items ts))) ≡ false
      → Leaves levels c (perform true (action_at f.position (head_kind (items ts)) (touches n (items ts))) f fs ts n es)
  step_leaves e g = by (items ts) refl e
    where
      action : Action
      action = action_at f.position (head_kind (items ts)) (touches n (items ts))

      may : Allowed f.position (head_kind (items ts)) action
      may = allowed f.position (head_kind (items ts)) (touches n (items ts))

      by : (us : List Token) → items ts ≡ us → Enough levels (2 + c) us (f ∷ fs) → Leaves levels c (perform true action f fs ts n es)
      by [] q e = action_ends q e action may g
      by (t ∷ us) q e =
          let kept : AreAtMost (bounds levels f.position action) =
          subst (λ next. AreAtMost (bounds levels f.position (action_at f.position next (touches n (items ts))))) (sym (ap head_kind q))
          (bounded levels f.position t.kind (touches n (items ts))) in
          action_leaves t us q e action may kept
