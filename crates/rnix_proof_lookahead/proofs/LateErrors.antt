-- Each step reports errors about unexpected items only at the items that are left.
use Rattle.std.proofs.{Common.{◌≡◌, ℕ, suc, ◌≤◌, Bool, true, false, List, [], ◌∷◌, ◌++◌, Option, Some, None, refl, ap, sym, ◌∙◌, arith, nat_le, nat_lt, append_assoc, append-nil}, lemmas.Bool.Decides.nat_tests}
use Rattle.rnix_kinds.specs.declared.kinds.SyntaxKind.TheVariants.{NODE_APPLY}
use Rattle.rnix_grammar.specs.declared.{slot_table.TheConstants.APPLIED, action.Action.Action, operand_start.OperandStart.OperandStart}
use Rattle.rnix_grammar.specs.{Fault.{Fault, extra, unwanted, unexpected_eof, unexpected_eof_wanted, too_deep}}
use Rattle.rnix_grammar.specs.{Tables.{depth_limit, wanted_kinds}, Actions.action_at, OperandStarts.{operand_start_of, second_kind}, UnwantedRun.run_of}
use Rattle.rnix_grammar.specs.AnnotatedForest.{Token, Stray, Unwanted, Extra, DoubleBind, AnnotatedForest, blank, tokens_in, head_kind, touches}
use Rattle.rnix_grammar.specs.Reports.{report, has_entry, repeated, repeated_if, entry_name}
use Rattle.rnix_proof_lemmas.specs.Machine.{Node, Operand, Frame, Machine, put, opened, min_bp_of}
use Rattle.rnix_proof_lemmas.specs.Machine.{begun, operand_on, reading, perform, step_on, step, Runs}
use Rattle.rnix_proof_lemmas.specs.Machine.{rest as here, then as further}
use Rattle.rnix_proof_lemmas.{specs.Allowed.Allowed, proofs.{AllowedLemmas.allowed, Basics.choice}}
use Rattle.rnix_proof_prefix.{specs.Prefix.BeginsFrom, proofs.{Late.{AreFrom, from_tail, from_dropped, starts_there, starts_run, report_from}, LateSteps.{StrayFrom, stray_from}}}
use Rattle.rnix_proof_lookahead.specs.ErrorsBefore.{up_to, error_if, error_before, errors_before}
use Rattle.rnix_grammar.specs.declared.position.Position.TheVariants as p
use Rattle.rnix_grammar.specs.declared.action.Action.TheVariants as a
use Rattle.rnix_grammar.specs.declared.operand_start.OperandStart.TheVariants as b

-- the errors before a byte in two joined lists are those in both
pub errors_more : (m : ℕ) (ds es : List Fault) → errors_before m (ds ++ es) ≡ errors_before m ds ++ errors_before m es
errors_more m [] es = refl
errors_more m (d ∷ ds) es =
    ap (λ z. error_before m d ++ z) (errors_more m ds es) ∙ sym (append_assoc (error_before m d) (errors_before m ds) (errors_before m es))

-- errors that do not begin before the byte add none to those before it
none_more : (m : ℕ) (es ds : List Fault) → errors_before m ds ≡ [] → errors_before m (es ++ ds) ≡ errors_before m es
none_more m es ds h = errors_more m es ds ∙ ap (λ z. errors_before m es ++ z) h ∙ append-nil (errors_before m es)

not_before : (m n : ℕ) → m ≤ n → nat_lt n m ≡ false
not_before m n l = grind (arith, nat_tests, l)

none_before : (m : ℕ) (d : Fault) → BeginsFrom m d → error_before m d ++ [] ≡ []
none_before m (extra a) h = ap (λ z. error_if z (extra (up_to m a)) ++ []) (not_before m a.start h)
none_before m (unwanted kind a wanted) h = ap (λ z. error_if z (unwanted kind (up_to m a) wanted) ++ []) (not_before m a.start h)
none_before m d h = refl

-- everything left begins at the byte or after it, and the errors before the byte are unchanged
pub record IsLateStep (m : ℕ) (es : List Fault) (next : Machine) : Type 0 where
  pub remaining : AreFrom m next.remaining
  pub faults : errors_before m next.faults ≡ errors_before m es

-- one more error that begins at the byte or after it adds none
pub more_late : (m : ℕ) (es : List Fault) (d : Fault) → BeginsFrom m d → errors_before m (es ++ d ∷ []) ≡ errors_before m es
more_late m es d h = none_more m es (d ∷ []) (none_before m d h)

-- the error of an entry that repeats a name adds none
repeated_none : (m : ℕ) (name : Option Token) (before : AnnotatedForest) → errors_before m (repeated_if name before) ≡ []
repeated_none m None before = refl
repeated_none m (Some t) before = choice (λ z. errors_before m z ≡ []) (has_entry t.text before) refl refl

-- beginning an operand adds none
pub begun_late : (m : ℕ) (how : OperandStart) (level d : ℕ) (t : Token) (f : Frame) (fs : List Frame) (us : List Token) (n : ℕ) (es : List Fault)
    → AreFrom m us → StrayFrom m how t → IsLateStep m es (begun false how level d t f fs (t ∷ us) n es)
begun_late m b.Stray level d t f fs us n es l s = record { remaining = l; faults = more_late m es (report Stray (t ∷ [])) s }
begun_late m _ level d t f fs us n es l s = assumption (l, from_tail m us l)

pub operand_late : (m level d : ℕ) (f : Frame) (fs : List Frame) (ts : List Token) (n : ℕ) (es : List Fault) → AreFrom m ts
    → IsLateStep m es (operand_on false level d f fs ts ts n es)
operand_late m level d f fs [] n es l = record { remaining = l; faults = more_late m es unexpected_eof tt }
operand_late m level d f fs (t ∷ us) n es l =
    let how : OperandStart = operand_start_of level t.kind t.text (head_kind us) (second_kind us) in
    begun_late m how level d t f fs us n es l.1 (stray_from m how t l.0)

pub reading_late : (m level : ℕ) (counted : Bool) (f : Frame) (fs : List Frame) (ts : List Token) (n : ℕ) (es : List Fault) → AreFrom m ts
    → IsLateStep m es (reading false level counted f fs ts n es)
reading_late m level true f fs ts n es l =
    choice (IsLateStep m es) (nat_le depth_limit f.depth) (record { remaining = from_dropped m ts ts l; faults = more_late m es too_deep tt })
    (operand_late m level (suc f.depth) f fs ts n es l)
reading_late m level false f fs ts n es l = operand_late m level f.depth f fs ts n es l

-- each action adds none
pub perform_late : (m : ℕ) (action : Action) (f : Frame) (fs : List Frame) (ts : List Token) (n : ℕ) (es : List Fault)
    → Allowed f.position (head_kind ts) action → AreFrom m ts → IsLateStep m es (perform false action f fs ts n es)
perform_late m action f fs ts n es al l = by action fs al
  where
    by : (action : Action) (fs : List Frame) → Allowed f.position (head_kind ts) action → IsLateStep m es (perform false action f fs ts n es)
    by a.CloseEntry (g ∷ fs) al = record {
      remaining = l;
      faults =
          none_more m es (repeated g.children f.children) (repeated_none m (entry_name f.children) g.children);
    }
    by a.Extra fs al = record {
      remaining = from_dropped m ts ts l;
      faults =
          more_late m es (report Extra ts) (report_from m Extra ts (starts_there m ts al.0 l));
    }
    by (a.Miss after) fs al = record { remaining = l; faults = more_late m es unexpected_eof tt }
    by (a.MissWanted until after) fs al = record { remaining = l; faults = more_late m es (unexpected_eof_wanted (wanted_kinds until)) tt }
    by (a.Run until after) fs al =
        let run : List Token = run_of until ts in
        record {
          remaining = from_dropped m run ts l;
          faults = more_late m es (report (Unwanted until) run) (report_from m (Unwanted until) run (starts_run m until ts al.0 l));
        }
    by (a.Read level counted after) fs al = reading_late m level counted (put (p.InRow after) f.children f) fs ts n es l
    by a.Apply fs al =
        reading_late m 16 false (opened (Node NODE_APPLY) (p.InRow APPLIED) f.depth f.children)
        (opened Operand (p.AfterOperand (min_bp_of f.position) 15) f.depth blank ∷ fs) ts n es l
    by a.CloseDoubleBind [] al = assumption (none_more m es (report DoubleBind (tokens_in f.children) ∷ []) refl)
    by a.CloseDoubleBind (g ∷ fs) al = assumption (none_more m es (report DoubleBind (tokens_in f.children) ∷ []) refl)
    by _ [] al = assumption (l, from_tail m ts l)
    by _ (g ∷ fs) al = assumption (l, from_tail m ts l)

-- each step adds none
pub step_late : (m : ℕ) (now : Machine) → AreFrom m now.remaining → IsLateStep m now.faults (step false now)
step_late m now l = by now.frames
  where
    by : (fs : List Frame) → IsLateStep m now.faults (step_on false fs now.remaining now.prev_end now.faults)
    by [] = record { remaining = l; faults = refl }
    by (f ∷ fs) =
        let near : Bool = touches now.prev_end now.remaining in
        perform_late m (action_at f.position (head_kind now.remaining) near) f fs now.remaining now.prev_end now.faults
        (allowed f.position (head_kind now.remaining) near) l

-- a run of steps adds none
pub runs_late : (m : ℕ) {now last : Machine} → Runs false now last → AreFrom m now.remaining → errors_before m last.faults ≡ errors_before m now.faults
runs_late m here l = refl
runs_late m (further {m = now} r) l =
    let w : IsLateStep m now.faults (step false now) = step_late m now l in
    runs_late m r w.remaining ∙ w.faults
