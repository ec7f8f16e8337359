-- Each step of the machine leaves less to do.
use Rattle.std.proofs.Common.{◌≡◌, ◌≤◌, ◌<◌, ◌+◌, ◌*◌, ℕ, suc, length, true, false, Bool, List, [], ◌∷◌, ◌++◌, map, Option, Some, None, refl, ap, sym, ◌∙◌, subst, arith, nat_le}
use Rattle.{std.proofs.{Common.if◌then◌else◌, lemmas.Bool.leb-true}, rnix_kinds.specs.declared.kinds.SyntaxKind.TheVariants.{NODE_APPLY}}
use Rattle.rnix_grammar.specs.{declared.{position.Position.Position, expected_set.ExpectedSet.ExpectedSet, action.Action.Action, operand_start.OperandStart.OperandStart, slot_table.{Slot.{Slot, TheVariants.Next}, TheConstants.{APPLIED, LAMBDA, LEGACY_LET, PATTERN, BOUND_PATTERN, PAT_ENTRY, SECOND_BIND}}}, Fault.Fault}
use Rattle.rnix_grammar.specs.{Tables.{stops, depth_limit}, Slots.slot_at, OperandStarts.{operand_start_of, second_kind}, AnnotatedForest.{Token, blank, head_kind}}
use Rattle.rnix_grammar.specs.Layout.{items, from_item, tail_of}
use Rattle.rnix_proof_lemmas.specs.Machine.{Node, Operand, Frame, Machine, put, opened, after_item, closed, limited, min_bp_of}
use Rattle.rnix_grammar.specs.UnwantedRun.{run_of}
use Rattle.rnix_proof_lemmas.specs.FrameKinds.{FrameKind, NodeFrame, Entry, frame_kind}
use Rattle.rnix_proof_lemmas.specs.Machine.{run_rest, dropped, begun, operand_on, reading, machine, perform, entry_closed}
use Rattle.rnix_proof_lemmas.specs.Allowed.{Allowed, IsNext, is_there}
use Rattle.rnix_proof_lemmas.specs.FrameKinds.{IsStackedOn}
use Rattle.rnix_proof_lemmas.specs.Measures.{measure, start_measure_in, start_measure}
use Rattle.rnix_proof_lemmas.proofs.{Basics.true_is_not_false, LayoutLemmas.items-from_item, WithoutTriviaLemmas.{items_behind, run_prefix, all_prefix, run_bared}}
use Rattle.rnix_proof_lemmas.proofs.{UnwantedRuns.{dropped_all, run_begins}, AllowedLemmas.{sort_by, sort_there, measure_there}}
use Rattle.rnix_proof_steps.{specs.StepCount.is_finish, proofs.{Budgets.measure_some, BudgetedSteps.is_root}}
use Rattle.rnix_reader.specs.{declared.mark.Mark.Mark, Erase.{marks_of, mark_of, erase}, Holds.{positions_on, measures, start_measure_at, cost, work}}
use Rattle.rnix_grammar.specs.declared.position.Position.TheVariants as p
use Rattle.rnix_grammar.specs.declared.action.Action.TheVariants as a
use Rattle.rnix_grammar.specs.declared.rules.Part.TheVariants as r
use Rattle.rnix_grammar.specs.declared.operand_start.OperandStart.TheVariants as b

-- a position's measure is at most 7
measure_most : (position : Position) → measure position ≤ 7
measure_most position = leb-true (measure position) 7 (measure_there position).2

start_measure_test : (slot : Option Slot) → nat_le (start_measure_in slot) 30 ≡ true
start_measure_test (Some (Next r.Attr)) = refl
start_measure_test (Some (Next r.Attrpath)) = refl
start_measure_test _ = refl

start_measure_most : (position : Position) → start_measure position ≤ 30
start_measure_most (p.InRow i) = leb-true (start_measure_in (slot_at i)) 30 (start_measure_test (slot_at i))
start_measure_most (p.AfterOperand min_bp max_bp) = leb-true 30 30 refl
start_measure_most (p.Right level) = leb-true 30 30 refl

abbrev is_plain : FrameKind → Bool
is_plain NodeFrame = true
is_plain sort = false

-- only a plain node may have begun without an item
start_measure_full : (position : Position) → is_plain (frame_kind position) ≡ false → start_measure position ≡ 30
start_measure_full (p.AfterOperand min_bp max_bp) e = refl
start_measure_full (p.Right level) e = refl
start_measure_full (p.InRow i) e = slot_full (slot_at i) (sort_there i)
  where
    slot_full : (slot : Option Slot) → frame_kind (p.InRow i) ≡ sort_by slot (frame_kind (p.InRow i)) → start_measure_in slot ≡ 30
    slot_full (Some (Next r.Attrpath)) h = absurd (true_is_not_false (sym (ap is_plain h) ∙ e))
    slot_full (Some (Next r.Attr)) h = absurd (true_is_not_false (sym (ap is_plain h) ∙ e))
    slot_full _ h = refl

-- the positions of frames
abbrev pub positions : List Frame → List Position
positions fs = map (λ (f : Frame). f.position) fs

-- the sum of their measures
abbrev measure_of : List Frame → ℕ
measure_of fs = measures (positions fs)

-- what a machine has left to do
abbrev pub cost_of : Machine → ℕ
cost_of m = cost (items m.remaining) (positions m.frames)

start_measure_small : (us : List Token) (position : Position) → start_measure_at us position ≤ 30
start_measure_small [] position = omega arith
start_measure_small (t ∷ us) position = start_measure_most position

positions_last : (ms : List Mark) (m : Mark) → positions_on (ms ++ m ∷ []) ≡ m.position ∷ positions_on ms
positions_last [] m = refl
positions_last (x ∷ ms) m = ap (λ xs. xs ++ x.position ∷ []) (positions_last ms m)

positions_marks : (fs : List Frame) → positions_on (marks_of fs) ≡ positions fs
positions_marks [] = refl
positions_marks (f ∷ fs) = positions_last (marks_of fs) (mark_of f fs) ∙ ap (λ xs. f.position ∷ xs) (positions_marks fs)

-- the reader's measure of work is the machine's
pub work_is : (m : Machine) → work (erase m) ≡ cost_of m
work_is m = ap (cost (items m.remaining)) (positions_marks m.frames)

-- reading an item leaves fewer items
there : (us : List Token) → is_there (head_kind us) ≡ true → suc (length (tail_of us)) ≤ length us
there [] e = absurd (true_is_not_false (sym e))
there (t ∷ us) e = omega arith

tail_less : (us : List Token) → length (tail_of us) ≤ length us
tail_less [] = omega arith
tail_less (t ∷ us) = omega arith

remaining_behind : (ts : List Token) → length (items (after_item true ts)) ≡ length (tail_of (items ts))
remaining_behind ts = ap length (items_behind ts)

remaining_after_two : (ts : List Token) → length (items (after_item true (after_item true ts))) ≤ length (tail_of (items ts))
remaining_after_two ts = omega (arith, remaining_behind (after_item true ts), tail_less (items (after_item true ts)), remaining_behind ts)

-- skipping a run leaves at most as many items
dropped_less : (run us : List Token) → length (dropped run us) ≤ length us
dropped_less [] us = omega arith
dropped_less (x ∷ run) us = omega (arith, dropped_less run (tail_of us), tail_less us)

run_less : (until : ExpectedSet) (us : List Token) → stops until (head_kind us) ≡ false → suc (length (dropped (run_of until us) us)) ≤ length us
run_less until [] e = absurd (true_is_not_false e)
run_less until (t ∷ us) e =
    omega (arith, dropped_less (run_of until us) us, ap (λ x. length (dropped x (t ∷ us))) (run_begins until t us e))

remaining_run : (until : ExpectedSet) (ts : List Token) → items (run_rest true (run_of until (items ts)) ts) ≡ dropped (run_of until (items ts)) (items ts)
remaining_run until ts = (run_bared (run_of until (items ts)) ts (dropped (run_of until (items ts)) (items ts)) (run_prefix until (items ts))).remaining

remaining_none : (ts : List Token) → items (run_rest true (items ts) ts) ≡ []
remaining_none ts = (run_bared (items ts) ts (dropped (items ts) (items ts)) (all_prefix (items ts))).remaining ∙ dropped_all (items ts)

-- inequalities for the cases below
close_less : (us : List Token) (position below : Position) (z : ℕ) → start_measure position ≡ 30
    → 100 * length us + (measure below + z) + start_measure_at us below < 100 * length us + (measure position + (measure below + z)) + start_measure_at us
    position
close_less [] position below z e = omega (arith, measure_some position)
close_less (t ∷ us) position below z e = omega (arith, e, measure_some position, start_measure_most below)

ended_less : (us : List Token) (position : Position) (after z : ℕ) → head_kind us ≡ None → IsNext position (head_kind us) after
    → 100 * length us + (measure (p.InRow after) + z) + start_measure_at us
    (p.InRow after) < 100 * length us + (measure position + z) + start_measure_at us position
ended_less [] position after z e h = omega (arith, h.1)
ended_less (t ∷ us) position after z e h = absurd (cc)

next_less : (us : List Token) (position : Position) (after : ℕ) → IsNext position (head_kind us) after → us ≡ [] → measure (p.InRow after) < measure position
next_less [] position after h e = h.1
next_less (t ∷ us) position after h e = absurd (cc)

-- completing a frame leaves less
closed_less : (f : Frame) (fs : List Frame) (ts : List Token) (n : ℕ) (es : List Fault) → IsStackedOn f.head f.position fs
    → is_root (frame_kind f.position) ≡ false → start_measure f.position ≡ 30
    → cost_of (closed f fs ts n es) < cost_of (machine (f ∷ fs) ts n es)
closed_less f [] ts n es w r e = absurd (true_is_not_false (sym (ap is_root w.1) ∙ r))
closed_less f (g ∷ fs) ts n es w r e = close_less (items ts) f.position g.position (measure_of fs) e

-- what an operand leaves is less than a number
record Below (f : Frame) (fs : List Frame) (us : List Token) (c : ℕ) : Type 0 where
  none : us ≡ [] → measure_of (f ∷ fs) < c
  some : is_there (head_kind us) ≡ true → 100 * length (tail_of us) + 51 + measure_of (f ∷ fs) < c

below_end : (f : Frame) (fs : List Frame) (us : List Token) (c : ℕ) → Below f fs us c → measure_of (f ∷ fs) < c
below_end f fs [] c h = h.none refl
below_end f fs (t ∷ us) c h = omega (arith, h.some refl)

module _ (f : Frame) (fs : List Frame) (ts : List Token) (n : ℕ) (es : List Fault) where
  -- beginning an operand leaves less
  begun_less : (how : OperandStart) (level d : ℕ) (t : Token) → cost_of (begun true how level d t f fs ts n es) ≤ 100 * length
      (tail_of (items ts)) + 51 + measure_of (f ∷ fs)
  begun_less (b.Leaf k) level d t = omega (arith, remaining_behind ts, start_measure_small (items (after_item true ts)) (p.AfterOperand level 16))
  begun_less (b.Node k remaining max_bp) level d t =
      omega (arith, remaining_behind ts, start_measure_small (items (after_item true ts)) (p.InRow remaining), measure_most (p.InRow remaining))
  begun_less b.LegacyLet level d t = omega
      (arith, remaining_after_two ts, start_measure_small (items (after_item true (after_item true ts))) (p.InRow LEGACY_LET))
  begun_less b.NameLambda level d t = omega (arith, remaining_behind ts, start_measure_small (items (after_item true ts)) (p.InRow LAMBDA))
  begun_less b.BoundLambda level d t =
      omega (arith, remaining_after_two ts, start_measure_small (items (after_item true (after_item true ts))) (p.InRow BOUND_PATTERN))
  begun_less b.PatternLambda level d t = omega (arith, remaining_behind ts, start_measure_small (items (after_item true ts)) (p.InRow PATTERN))
  begun_less b.Stray level d t = omega (arith, remaining_behind ts, start_measure_small (items (after_item true ts)) (p.AfterOperand level 16))

  operand_less : (level d : ℕ) (us : List Token) (c : ℕ) → items ts ≡ us → Below f fs us c → cost_of (operand_on true level d f fs ts us n es) < c
  operand_less level d [] c e h = omega (arith, h.none refl, ap length e, ap (λ x. start_measure_at x f.position) e)
  operand_less level d (t ∷ us) c e h =
      omega (arith, begun_less (operand_start_of level t.kind t.text (head_kind us) (second_kind us)) level d t, h.some refl, ap (λ x. length (tail_of x)) e)

  limited_less : (c : ℕ) → Below f fs (items ts) c → cost_of (limited true f fs ts n es) < c
  limited_less c h =
      let remaining : items (from_item (run_rest true (items ts) ts)) ≡ [] = items-from_item (run_rest true (items ts) ts) ∙ remaining_none ts in
      omega (arith, below_end f fs (items ts) c h, ap length remaining, ap (λ x. start_measure_at x f.position) remaining)

  reading_less : (level : ℕ) (counted : Bool) (c : ℕ) → Below f fs (items ts) c → cost_of (reading true level counted f fs ts n es) < c
  reading_less level true c h =
      elim (nat_le depth_limit f.depth) as (λ x. cost_of (if x then limited true f fs ts n es else operand_on true level (suc f.depth) f fs ts
      (items ts) n es) < c)
      [ true ↦ limited_less c h | false ↦ operand_less level (suc f.depth) (items ts) c refl h ]
  reading_less level false c h = operand_less level f.depth (items ts) c refl h

-- opening a node without an item leaves less
start_less : (us : List Token) (position inside after : Position) (z : ℕ) → start_measure inside ≡ 0
    → measure inside + measure after < measure position + start_measure position
    → ((head_kind us ≡ None) → measure inside + measure after < measure position)
    → 100 * length us + (measure inside + (measure after + z)) + start_measure_at us inside < 100 * length us + (measure position + z) + start_measure_at us
    position
start_less [] position inside after z e h k = omega (arith, k refl)
start_less (t ∷ us) position inside after z e h k = omega (arith, h, e)

-- completing an entry leaves less
entry_less : (f : Frame) (fs : List Frame) (ts : List Token) (n : ℕ) (es : List Fault) → IsStackedOn f.head f.position fs → frame_kind f.position ≡ Entry
    → cost_of (entry_closed true f fs ts n es) < cost_of (machine (f ∷ fs) ts n es)
entry_less f [] ts n es w e = absurd (true_is_not_false (sym (ap is_root w.1) ∙ ap is_root e))
entry_less f (g ∷ fs) ts n es w e = closed_less f (g ∷ fs) ts n es w (ap is_root e) (start_measure_full f.position (ap is_plain e))

module _ (f : Frame) (fs : List Frame) (ts : List Token) (n : ℕ) (es : List Fault) (w : IsStackedOn f.head f.position fs) where
  -- what is left before the action
  abbrev before : ℕ
  before = cost_of (machine (f ∷ fs) ts n es)

  -- each action leaves less
  pub perform_less : (action : Action) → Allowed f.position (head_kind (items ts)) action → is_finish action ≡ false
      → cost_of (perform true action f fs ts n es) < before
  perform_less a.Close al g = closed_less f fs ts n es w (ap is_root al.0) al.1
  perform_less a.ClosePattern al g = closed_less f fs ts n es w (ap is_root al) (start_measure_full f.position (ap is_plain al))
  perform_less a.CloseEntry al g = entry_less f fs ts n es w al
  perform_less a.CloseDoubleBind al g = closed_less f fs ts n _ w (ap is_root al) (start_measure_full f.position (ap is_plain al))
  perform_less a.Finish al g = absurd (true_is_not_false g)
  perform_less a.EndOperand al g = closed_less f fs ts n es w (ap is_root al) (start_measure_full f.position (ap is_plain al))
  perform_less a.Extra al g = omega (arith, ap length (remaining_none ts), ap (λ x. start_measure_at x f.position) (remaining_none ts), there (items ts) al.0)
  perform_less (a.Take after) al g =
      omega (arith, there (items ts) al.0, remaining_behind ts, measure_most (p.InRow after), start_measure_small (items (after_item true ts)) (p.InRow after))
  perform_less (a.Miss after) al g = ended_less (items ts) f.position after (measure_of fs) al.0 al.1
  perform_less (a.MissWanted until after) al g = ended_less (items ts) f.position after (measure_of fs) al.0 al.1
  perform_less (a.Run until after) al g =
      let us : List Token = items (run_rest true (run_of until (items ts)) ts) in
      omega (arith, run_less until (items ts) al.0, ap length (remaining_run until ts), measure_most (p.InRow after), start_measure_small us (p.InRow after))
  perform_less (a.Leaf k after) al g =
      omega (arith, there (items ts) al.0, remaining_behind ts, measure_most (p.InRow after), start_measure_small (items (after_item true ts)) (p.InRow after))
  perform_less (a.Open k inside after) al g =
      let us : List Token = items (after_item true ts) in
      omega (
        arith,
        there (items ts) al.0,
        remaining_behind ts,
        measure_most (p.InRow after),
        measure_most (p.InRow inside),
        start_measure_small us
            (p.InRow inside),
      )
  perform_less (a.OpenEmpty k inside after) al g =
      subst (λ us. 100 * length us + (measure (p.InRow inside) + (measure (p.InRow after) + measure_of fs)) + start_measure_at us (p.InRow inside) < before)
      (sym (items-from_item ts)) (start_less (items ts) f.position (p.InRow inside) (p.InRow after) (measure_of fs) al.4 al.5 al.6)
  perform_less (a.Entry after) al g =
      omega (
        arith,
        there (items ts) (ap is_there al.0),
        remaining_behind ts,
        measure_most (p.InRow after),
        start_measure_small (items (after_item true ts))
            (p.InRow PAT_ENTRY),
      )
  perform_less (a.DoubleBind after) al g =
      omega (
        arith,
        there (items ts) al.0,
        remaining_behind ts,
        measure_most (p.InRow after),
        start_measure_small (items (after_item true ts))
            (p.InRow SECOND_BIND),
      )
  perform_less (a.Read level counted after) al g = reading_less (put (p.InRow after) f.children f) fs ts n es level counted before record {
    none = λ e. omega (arith, next_less (items ts) f.position after al.0 e);
    some = λ e. omega (arith, there (items ts) e, measure_most (p.InRow after));
  }
  perform_less (a.Wrap k inside max_bp) al g =
      omega (arith, there (items ts) al.0, remaining_behind ts, measure_most inside, start_measure_small (items (after_item true ts)) inside)
  perform_less a.Apply al g =
      let over : Frame = opened Operand (p.AfterOperand (min_bp_of f.position) 15) f.depth blank in
      reading_less (opened (Node NODE_APPLY) (p.InRow APPLIED) f.depth f.children) (over ∷ fs) ts n es 16 false before record {
        none = λ e. absurd (true_is_not_false (sym al.0 ∙ ap (λ us. is_there (head_kind us)) e));
        some = λ e. omega (arith, there (items ts) e);
      }
  perform_less a.ApplyOr al g = omega (
    arith,
    there (items ts) al.0,
    remaining_behind ts,
    start_measure_small (items (after_item true ts))
        (p.AfterOperand (min_bp_of f.position) 15),
  )
