-- No step removes an error, or closes a frame with an error to report without reporting it. So if there are no errors at the end, there were none before.
use Rattle.std.proofs.Common.{◌≡◌, ℕ, suc, Bool, true, false, List, [], ◌∷◌, ◌++◌, Option, refl, ap, sym, ◌∙◌, subst, if◌then◌else◌, nat_le}
use Rattle.rnix_kinds.specs.declared.kinds.SyntaxKind.{SyntaxKind, TheVariants.{NODE_APPLY, NODE_IDENT, NODE_PAT_ENTRY}}
use Rattle.rnix_grammar.specs.{declared.{slot_table.TheConstants.APPLIED, action.Action.Action, operand_start.OperandStart.OperandStart}, Fault.{Fault, unexpected_eof}}
use Rattle.rnix_grammar.specs.{Fault.{unexpected_eof_wanted, too_deep}, Tables.{depth_limit, wanted_kinds}, Actions.action_at, OperandStarts.{operand_start_of, second_kind}}
use Rattle.rnix_grammar.specs.AnnotatedForest.{Token, Stray, Unwanted, Extra, DoubleBind, TooDeep, AnnotatedForest, blank, branch, ◌⊕◌}
use Rattle.rnix_grammar.specs.{AnnotatedForest.{one_branch, one_fault, row_of, tokens_in, head_kind, touches}, Reports.{report, repeated, repeated_if}}
use Rattle.{rnix_grammar.specs.UnwantedRun.run_of, rnix_proof_lemmas.specs.Machine.{Head, Node, SecondBind, Operand, Frame, Machine, put, opened, leaf}}
use Rattle.rnix_proof_lemmas.specs.Machine.{kind_of, made, min_bp_of, machine, closed, entry_closed, begun, limited, operand_on, reading, perform, step_on}
use Rattle.rnix_proof_lemmas.specs.{Machine.{step, Runs, rest as here, then as further}, Allowed.Allowed, FrameKinds.{FrameKind, Entry, SecondBindFrame}}
use Rattle.rnix_proof_lemmas.{specs.FrameKinds.{frame_kind, frame_kind_of_head, IsStackedOn, AreStacked}, proofs.AllowedLemmas.allowed}
use Rattle.rnix_proof_lemmas.proofs.{StackedFrames.step_stacked, Basics.{true_is_not_false, not_nil, none_remaining, none_right}}
use Rattle.rnix_proof_prefix.{proofs.Late.{row_below, IsLate, AreLate, head_frame, head_entry}, specs.Prefix.BeginAllFrom}
use Rattle.rnix_grammar.specs.declared.position.Position.TheVariants as p
use Rattle.rnix_grammar.specs.declared.action.Action.TheVariants as a
use Rattle.rnix_grammar.specs.declared.operand_start.OperandStart.TheVariants as b

-- an open frame has no error to report
abbrev pub IsClean : Head → AnnotatedForest → AnnotatedForest → Type 0
IsClean (Node NODE_PAT_ENTRY) trees below = repeated below trees ≡ []
IsClean (Node k) trees below = Unit {0}
IsClean SecondBind trees below = ⊥
IsClean Operand trees below = Unit {0}

-- no open frame has an error to report
abbrev pub AreClean : List Frame → Type 0
AreClean [] = Unit {0}
AreClean (f ∷ fs) = IsClean f.head f.children (row_below fs) × AreClean fs

-- there is no error so far, and none to report
abbrev pub HasNone : Machine → Type 0
HasNone now = AreClean now.frames × (now.faults ≡ [])

-- if a longer forest has nothing to report, neither has a shorter one
fewer : (trees x below : AnnotatedForest) → repeated below (trees ⊕ x) ≡ [] → repeated below trees ≡ []
fewer (branch NODE_IDENT c f) x below h = h
fewer _ x below h = refl

clean_less : (h : Head) (trees x below : AnnotatedForest) → IsClean h (trees ⊕ x) below → IsClean h trees below
clean_less (Node NODE_PAT_ENTRY) trees x below w = fewer trees x below w
clean_less SecondBind trees x below w = w
clean_less _ trees x below w = tt

-- only entries of patterns and second names have anything to report
abbrev is_quiet : FrameKind → Bool
is_quiet Entry = false
is_quiet SecondBindFrame = false
is_quiet s = true

quiet : (h : Head) (trees below : AnnotatedForest) → is_quiet (frame_kind_of_head h) ≡ true → IsClean h trees below
quiet (Node NODE_PAT_ENTRY) trees below e = absurd (true_is_not_false (sym e))
quiet SecondBind trees below e = absurd (true_is_not_false (sym e))
quiet _ trees below e = tt

-- if a list with one more error is empty, so is the list
no_error : (es : List Fault) (e : Fault) → es ++ e ∷ [] ≡ [] → es ≡ []
no_error es e h = none_remaining es (e ∷ []) h

-- if there is no error and none to report after completing a frame that has none to report, there was none before
closed_clean : (f : Frame) (fs : List Frame) (ts : List Token) (n : ℕ) (es : List Fault) → IsClean f.head f.children (row_below fs)
    → HasNone (closed f fs ts n es) → HasNone (machine (f ∷ fs) ts n es)
closed_clean f [] ts n es c w = w
closed_clean f (g ∷ fs) ts n es c w = ((c, (clean_less g.head g.children (made f.head f.children) (row_below fs) w.0.0, w.0.1)), w.1)

-- completing a frame adds no errors by itself
closed_faults : (f : Frame) (fs : List Frame) (ts : List Token) (n : ℕ) (es : List Fault) → (closed f fs ts n es).faults ≡ es
closed_faults f [] ts n es = refl
closed_faults f (g ∷ fs) ts n es = refl

-- this holds for beginning an operand
begun_clean : (how : OperandStart) (level d : ℕ) (t : Token) (f : Frame) (fs : List Frame) (ts : List Token) (n : ℕ) (es : List Fault)
    → HasNone (begun false how level d t f fs ts n es) → HasNone (machine (f ∷ fs) ts n es)
begun_clean b.Stray level d t f fs ts n es w = (w.0.1, no_error es (report Stray (t ∷ [])) w.1)
begun_clean _ level d t f fs ts n es w = assumption

operand_clean : (level d : ℕ) (f : Frame) (fs : List Frame) (ts : List Token) (n : ℕ) (es : List Fault)
    → HasNone (operand_on false level d f fs ts ts n es) → HasNone (machine (f ∷ fs) ts n es)
operand_clean level d f fs [] n es w = (w.0, no_error es unexpected_eof w.1)
operand_clean level d f fs (t ∷ us) n es w =
    begun_clean (operand_start_of level t.kind t.text (head_kind us) (second_kind us)) level d t f fs (t ∷ us) n es w

reading_clean : (level : ℕ) (counted : Bool) (f : Frame) (fs : List Frame) (ts : List Token) (n : ℕ) (es : List Fault)
    → HasNone (reading false level counted f fs ts n es) → HasNone (machine (f ∷ fs) ts n es)
reading_clean level true f fs ts n es w =
    (elim (nat_le depth_limit f.depth)
    as (λ x. HasNone (if x then limited false f fs ts n es else operand_on false level (suc f.depth) f fs ts ts n es) → HasNone (machine (f ∷ fs) ts n es)) [
      | true ↦ λ w. ((clean_less f.head f.children (one_fault TooDeep (row_of ts)) (row_below fs) w.0.0, w.0.1), no_error es too_deep w.1)
      | false ↦ operand_clean level (suc f.depth) f fs ts n es
    ]) w
reading_clean level false f fs ts n es w = operand_clean level f.depth f fs ts n es w

-- this holds for completing an entry of a pattern
entry_closed_clean : (f : Frame) (fs : List Frame) (ts : List Token) (n : ℕ) (es : List Fault) → f.head ≡ Node NODE_PAT_ENTRY
    → HasNone (entry_closed false f fs ts n es) → HasNone (machine (f ∷ fs) ts n es)
entry_closed_clean f [] ts n es e w = w
entry_closed_clean f (g ∷ fs) ts n es e w =
    let none : repeated g.children f.children ≡ [] = none_right es (repeated g.children f.children) w.1 in
    let v : HasNone (machine (f ∷ (g ∷ fs)) ts n (es ++ repeated g.children f.children)) =
    closed_clean f (g ∷ fs) ts n (es ++ repeated g.children f.children) (subst (λ h. IsClean h f.children g.children) (sym e) none) w in
    (v.0, none_remaining es (repeated g.children f.children) v.1)

-- this holds for each action
perform_clean : (action : Action) (f : Frame) (fs : List Frame) (ts : List Token) (n : ℕ) (es : List Fault)
    → Allowed f.position (head_kind ts) action → IsStackedOn f.head f.position fs → HasNone (perform false action f fs ts n es)
    → HasNone (machine (f ∷ fs) ts n es)
perform_clean action f fs ts n es al st w = by action al w
  where
    quiet_at : {s : FrameKind} → frame_kind f.position ≡ s → is_quiet s ≡ true → IsClean f.head f.children (row_below fs)
    quiet_at e q = quiet f.head f.children (row_below fs) (ap is_quiet (head_frame f.head f.position fs st ∙ e) ∙ q)

    less : (x : AnnotatedForest) → IsClean f.head (f.children ⊕ x) (row_below fs) × AreClean fs → AreClean (f ∷ fs)
    less x w = (clean_less f.head f.children x (row_below fs) w.0, w.1)

    by : (action : Action) → Allowed f.position (head_kind ts) action → HasNone (perform false action f fs ts n es) → HasNone (machine (f ∷ fs) ts n es)
    by a.Close al w = closed_clean f fs ts n es (quiet_at al.0 refl) w
    by a.ClosePattern al w = closed_clean f fs ts n es (quiet_at al refl) w
    by a.CloseEntry al w = entry_closed_clean f fs ts n es (head_entry f.head (head_frame f.head f.position fs st ∙ al)) w
    by a.CloseDoubleBind al w =
        let error : Fault = report DoubleBind (tokens_in f.children) in
        absurd (not_nil (none_right es (error ∷ []) (sym (closed_faults f fs ts n (es ++ error ∷ [])) ∙ w.1)))
    by a.Finish al w = w
    by a.EndOperand al w = closed_clean f fs ts n es (quiet_at al refl) w
    by a.Extra al w = absurd (not_nil (none_right es (report Extra ts ∷ []) w.1))
    by (a.Take after) al w = (less (leaf false (kind_of f.head) ts) w.0, w.1)
    by (a.Miss after) al w = (w.0, no_error es unexpected_eof w.1)
    by (a.MissWanted until after) al w = (w.0, no_error es (unexpected_eof_wanted (wanted_kinds until)) w.1)
    by (a.Run until after) al w = absurd (not_nil (none_right es (report (Unwanted until) (run_of until ts) ∷ []) w.1))
    by (a.Leaf k after) al w = (less (one_branch k (leaf false k ts)) w.0, w.1)
    by (a.DoubleBind after) al w = absurd w.0.0
    by (a.Read level counted after) al w = reading_clean level counted (put (p.InRow after) f.children f) fs ts n es w
    by (a.Wrap k inside high) al w = ((quiet_at al.1 refl, w.0.1.1), w.1)
    by a.Apply al w =
        let v = reading_clean 16 false (opened (Node NODE_APPLY) (p.InRow APPLIED) f.depth f.children)
        (opened Operand (p.AfterOperand (min_bp_of f.position) 15) f.depth blank ∷ fs) ts n es w in
        ((quiet_at al.1 refl, v.0.1.1), v.1)
    by a.ApplyOr al w = ((quiet_at al.1 refl, w.0.1), w.1)
    -- this holds for opening a node or a second name
    by _ al w = (w.0.1, w.1)

-- if there is no error after a step, there was none before it
pub clean_step : (now : Machine) → AreStacked now.frames → HasNone (step false now) → HasNone now
clean_step now k w = by now.frames k w
  where
    by : (fs : List Frame) → AreStacked fs → HasNone (step_on false fs now.remaining now.prev_end now.faults)
        → HasNone (machine fs now.remaining now.prev_end now.faults)
    by [] k w = absurd k
    by (f ∷ fs) k w =
        let next : Option SyntaxKind = head_kind now.remaining in
        let near : Bool = touches now.prev_end now.remaining in
        perform_clean (action_at f.position next near) f fs now.remaining now.prev_end now.faults (allowed f.position next near) k w

-- if there is no error after a run of steps, there was none before it
pub clean_runs : {now last : Machine} → Runs false now last → AreStacked now.frames → HasNone last → HasNone now
clean_runs here k w = w
clean_runs (further {m = now} r) k w = clean_step now k (clean_runs r (step_stacked false now k) w)

-- a frame that has nothing to report has nothing to report before any byte
clean_late : (m : ℕ) (h : Head) (trees below : AnnotatedForest) → IsClean h trees below → IsLate 0 h trees below → IsLate m h trees below
clean_late m (Node NODE_PAT_ENTRY) trees below c w =
    (w.0, w.1, subst (BeginAllFrom m) (sym (ap (λ z. repeated_if z below) (sym w.1) ∙ c)) tt)
clean_late m SecondBind trees below c w = absurd c
clean_late m _ trees below c w = tt

pub all_late : (m : ℕ) (fs : List Frame) → AreClean fs → AreLate 0 fs → AreLate m fs
all_late m [] c w = tt
all_late m (f ∷ fs) c w = (clean_late m f.head f.children (row_below fs) c.0 w.0, all_late m fs c.1 w.1)
