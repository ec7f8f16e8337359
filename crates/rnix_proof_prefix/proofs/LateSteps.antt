-- Each step reports errors, and opens frames that have some to report, only at the items that are left.
use Rattle.std.proofs.Common.{ℕ, suc, ◌≤◌, Bool, true, false, List, [], ◌∷◌, ◌++◌, Option, ap, ◌∙◌, nat_le}
use Rattle.rnix_kinds.specs.declared.kinds.SyntaxKind.{SyntaxKind, TheVariants.{NODE_ERROR, NODE_APPLY}}
use Rattle.rnix_grammar.specs.{declared.{position.Position.Position, slot_table.TheConstants.APPLIED, action.Action.Action, operand_start.OperandStart.OperandStart}, Fault.Fault}
use Rattle.rnix_grammar.specs.{Fault.{unexpected_eof, unexpected_eof_wanted, too_deep}, Tables.{depth_limit, wanted_kinds}, Actions.action_at, OperandStarts.operand_start_of}
use Rattle.rnix_grammar.specs.{OperandStarts.second_kind, AnnotatedForest.{Token, Stray, Unwanted, Extra, DoubleBind, TooDeep, AnnotatedForest, blank, ◌⊕◌}}
use Rattle.rnix_grammar.specs.{AnnotatedForest.{one_branch, one_fault, row_of, tokens_in, head_kind, touches}, Reports.{report, repeated}, UnwantedRun.run_of}
use Rattle.rnix_proof_lemmas.specs.Machine.{Node, Operand, Frame, Machine, put, opened, leaf, kind_of, made, min_bp_of, closed, entry_closed, begun, limited}
use Rattle.rnix_proof_lemmas.specs.{Machine.{operand_on, reading, perform, step_on, step, Runs, rest as here, then as further}, Allowed.{Allowed, is_there}}
use Rattle.rnix_proof_lemmas.{specs.FrameKinds.{IsStackedOn, AreStacked}, proofs.{AllowedLemmas.allowed, Basics.choice, StackedFrames.{BeginsInner, operand_start_inner}}}
use Rattle.{rnix_proof_lemmas.proofs.StackedFrames.step_stacked, rnix_proof_prefix.{specs.Prefix.BeginAllFrom, proofs.Late.{AreFrom, from_tail, from_dropped}}}
use Rattle.rnix_proof_prefix.proofs.Late.{starts_there, starts_run, report_from, more_from, row_below, AreLate, HasLate, late_more, plain_late, entry_late}
use Rattle.rnix_proof_prefix.proofs.Late.{second_late, head_frame, entry_reports, second_reports}
use Rattle.rnix_grammar.specs.declared.position.Position.TheVariants as p
use Rattle.rnix_grammar.specs.declared.action.Action.TheVariants as a
use Rattle.rnix_grammar.specs.declared.operand_start.OperandStart.TheVariants as b

-- a stray item begins at the byte or after it
abbrev pub StrayFrom : ℕ → OperandStart → Token → Type 0
StrayFrom m b.Stray t = m ≤ t.start
StrayFrom m how t = Unit {0}

pub stray_from : (m : ℕ) (how : OperandStart) (t : Token) → m ≤ t.start → StrayFrom m how t
stray_from m b.Stray t h = h
stray_from m _ t h = tt

-- completing a frame leaves everything at the byte or after it
closed_late : (m : ℕ) (f : Frame) (fs : List Frame) (ts : List Token) (n : ℕ) (es : List Fault)
    → AreFrom m ts → AreLate m (f ∷ fs) → BeginAllFrom m es → HasLate m (closed f fs ts n es)
closed_late m f [] ts n es l w e = record { remaining = l; frames = w; faults = e }
closed_late m f (g ∷ fs) ts n es l w e =
    record { remaining = l; frames = (late_more m g.head g.children (made f.head f.children) (row_below fs) w.1.0, w.1.1); faults = e }

-- so does beginning an operand with the next item
pub begun_late : (m : ℕ) (second : Option SyntaxKind) (how : OperandStart) (level d : ℕ) (t : Token) (f : Frame) (fs : List Frame) (us : List Token) (n : ℕ)
    (es : List Fault) → BeginsInner second how → StrayFrom m how t → AreFrom m us → AreLate m (f ∷ fs) → BeginAllFrom m es
    → HasLate m (begun false how level d t f fs (t ∷ us) n es)
begun_late m second (b.Node k index high) level d t f fs us n es i s l w e =
    record { remaining = l; frames = (plain_late m k (leaf false k (t ∷ us)) blank i.0, (tt, w)); faults = e }
begun_late m second b.Stray level d t f fs us n es i s l w e =
    record { remaining = l; frames = (tt, w); faults = more_from m es (report Stray (t ∷ []) ∷ []) e (s, tt) }
begun_late m second _ level d t f fs us n es i s l w e = assumption (l, from_tail m us l)

-- so does reading an operand of a level, or missing it at the end of the text
operand_late : (m level d : ℕ) (f : Frame) (fs : List Frame) (ts : List Token) (n : ℕ) (es : List Fault)
    → AreFrom m ts → AreLate m (f ∷ fs) → BeginAllFrom m es → HasLate m (operand_on false level d f fs ts ts n es)
operand_late m level d f fs [] n es l w e = record { remaining = l; frames = w; faults = more_from m es (unexpected_eof ∷ []) e (tt, tt) }
operand_late m level d f fs (t ∷ us) n es l w e =
    let how : OperandStart = operand_start_of level t.kind t.text (head_kind us) (second_kind us) in
    begun_late m (head_kind us) how level d t f fs us n es (operand_start_inner level t.kind t.text (head_kind us) (second_kind us))
    (stray_from m how t l.0) l.1 w e

-- so does putting everything left into one error node
limited_late : (m : ℕ) (f : Frame) (fs : List Frame) (ts : List Token) (n : ℕ) (es : List Fault)
    → AreFrom m ts → AreLate m (f ∷ fs) → BeginAllFrom m es → HasLate m (limited false f fs ts n es)
limited_late m f fs ts n es l w e = record {
  remaining = from_dropped m ts ts l;
  frames = (late_more m f.head f.children (one_fault TooDeep (row_of ts)) (row_below fs) w.0, w.1);
  faults = more_from m es (too_deep ∷ []) e (tt, tt);
}

reading_late : (m level : ℕ) (counted : Bool) (f : Frame) (fs : List Frame) (ts : List Token) (n : ℕ) (es : List Fault)
    → AreFrom m ts → AreLate m (f ∷ fs) → BeginAllFrom m es → HasLate m (reading false level counted f fs ts n es)
reading_late m level true f fs ts n es l w e =
    choice (HasLate m) (nat_le depth_limit f.depth) (limited_late m f fs ts n es l w e) (operand_late m level (suc f.depth) f fs ts n es l w e)
reading_late m level false f fs ts n es l w e = operand_late m level f.depth f fs ts n es l w e

-- so does completing an entry of a pattern
entry_closed_late : (m : ℕ) (f : Frame) (fs : List Frame) (ts : List Token) (n : ℕ) (es : List Fault) → BeginAllFrom m (repeated (row_below fs) f.children)
    → AreFrom m ts → AreLate m (f ∷ fs) → BeginAllFrom m es → HasLate m (entry_closed false f fs ts n es)
entry_closed_late m f [] ts n es r l w e = record { remaining = l; frames = w; faults = e }
entry_closed_late m f (g ∷ fs) ts n es r l w e = closed_late m f (g ∷ fs) ts n (es
    ++ repeated g.children f.children) l w (more_from m es (repeated g.children f.children) e r)

-- so does each action
perform_late : (m : ℕ) (action : Action) (f : Frame) (fs : List Frame) (ts : List Token) (n : ℕ) (es : List Fault)
    → Allowed f.position (head_kind ts) action → IsStackedOn f.head f.position fs → AreFrom m ts → AreLate m (f ∷ fs) → BeginAllFrom m es
    → HasLate m (perform false action f fs ts n es)
perform_late m action f fs ts n es al st l w e = by action al
  where
    -- so do more children of the innermost frame
    grown : (x : AnnotatedForest) (next_position : Position) → AreLate m (put next_position (f.children ⊕ x) f ∷ fs)
    grown x next_position = (late_more m f.head f.children x (row_below fs) w.0, w.1)

    by : (action : Action) → Allowed f.position (head_kind ts) action → HasLate m (perform false action f fs ts n es)
    by a.Close al = closed_late m f fs ts n es l w e
    by a.ClosePattern al = closed_late m f fs ts n es l w e
    by a.CloseEntry al =
        entry_closed_late m f fs ts n es (entry_reports m f.head f.children (row_below fs) (head_frame f.head f.position fs st ∙ al) w.0) l w e
    by a.CloseDoubleBind al =
        let error : Fault = report DoubleBind (tokens_in f.children) in
        closed_late m f fs ts n (es ++ error ∷ []) l w
        (more_from m es (error ∷ []) e (second_reports m f.head f.children (row_below fs) (head_frame f.head f.position fs st ∙ al) w.0, tt))
    by a.Finish al = record { remaining = l; frames = w; faults = e }
    by a.EndOperand al = closed_late m f fs ts n es l w e
    by a.Extra al = record {
      remaining = from_dropped m ts ts l;
      frames = grown (one_fault Extra (row_of ts)) f.position;
      faults = more_from m es (report Extra ts ∷ []) e (report_from m Extra ts (starts_there m ts al.0 l), tt);
    }
    by (a.Take after) al = record { remaining = from_tail m ts l; frames = grown (leaf false (kind_of f.head) ts) (p.InRow after); faults = e }
    by (a.Miss after) al = record { remaining = l; frames = w; faults = more_from m es (unexpected_eof ∷ []) e (tt, tt) }
    by (a.MissWanted until after) al = record {
      remaining = l;
      frames = w;
      faults =
          more_from m es (unexpected_eof_wanted (wanted_kinds until) ∷ []) e (tt, tt);
    }
    by (a.Run until after) al =
        let run : List Token = run_of until ts in
        record {
          remaining = from_dropped m run ts l;
          frames = grown (one_fault (Unwanted until) (row_of run)) (p.InRow after);
          faults = more_from m es (report (Unwanted until) run ∷ []) e (report_from m (Unwanted until) run (starts_run m until ts al.0 l), tt);
        }
    by (a.Leaf k after) al = record { remaining = from_tail m ts l; frames = grown (one_branch k (leaf false k ts)) (p.InRow after); faults = e }
    by (a.Open k inside after) al = record { remaining = from_tail m ts l; frames = (plain_late m k (leaf false k ts) f.children al.2, w); faults = e }
    by (a.OpenEmpty k inside after) al = record { remaining = l; frames = (plain_late m k blank f.children al.1, w); faults = e }
    by (a.Entry after) al =
        record { remaining = from_tail m ts l; frames = (entry_late m ts f.children (starts_there m ts (ap is_there al.0) l), w); faults = e }
    by (a.DoubleBind after) al =
        record { remaining = from_tail m ts l; frames = (second_late m NODE_ERROR ts (starts_there m ts al.0 l), w); faults = e }
    by (a.Read level counted after) al = reading_late m level counted (put (p.InRow after) f.children f) fs ts n es l w e
    by (a.Wrap k inside high) al =
        record { remaining = from_tail m ts l; frames = (plain_late m k (f.children ⊕ leaf false k ts) blank al.2, (tt, w.1)); faults = e }
    by a.Apply al =
        reading_late m 16 false (opened (Node NODE_APPLY) (p.InRow APPLIED) f.depth f.children)
        (opened Operand (p.AfterOperand (min_bp_of f.position) 15) f.depth blank ∷ fs) ts n es l (tt, (tt, w.1)) e
    by a.ApplyOr al = record { remaining = from_tail m ts l; frames = (tt, w.1); faults = e }

-- so does each step
pub late_step : (m : ℕ) (now : Machine) → AreStacked now.frames → HasLate m now → HasLate m (step false now)
late_step m now k w = by now.frames k w.frames
  where
    by : (fs : List Frame) → AreStacked fs → AreLate m fs → HasLate m (step_on false fs now.remaining now.prev_end now.faults)
    by [] k v = absurd k
    by (f ∷ fs) k v =
        let next : Option SyntaxKind = head_kind now.remaining in
        let near : Bool = touches now.prev_end now.remaining in
        perform_late m (action_at f.position next near) f fs now.remaining now.prev_end now.faults (allowed f.position next near) k w.remaining v w.faults

-- so does a run of steps
pub late_runs : (m : ℕ) {now last : Machine} → Runs false now last → AreStacked now.frames → HasLate m now → HasLate m last
late_runs m here k w = w
late_runs m (further {m = now} r) k w = late_runs m r (step_stacked false now k) (late_step m now k w)
