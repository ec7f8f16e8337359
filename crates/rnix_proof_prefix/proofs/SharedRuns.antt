-- A list of items has no error at those that it shares with the beginning of a list that is read without errors, unless these end undecided.
use Rattle.{std.proofs.Common.{◌≡◌, inl, inr, ℕ, false, List, [], ◌∷◌, ◌++◌, refl, ap, sym, ◌∙◌, subst, arith}, rnix_grammar.specs.Fault.Fault}
use Rattle.{rnix_grammar.specs.{Actions.action_at, AnnotatedForest.{Token, head_kind, touches}}, rnix_proof_lemmas.specs.Machine.{Frame, Machine, machine}}
use Rattle.rnix_proof_lemmas.{specs.{Machine.{step_on, step, initial_machine, Runs, rest as here, then as further}, FrameKinds.AreStacked}, proofs.Basics.not_nil}
use Rattle.{rnix_proof_lemmas.proofs.StackedFrames.{step_stacked, initial_stacked}, rnix_proof_prefix.specs.Prefix.{BeginAllFrom, end_undecided}}
use Rattle.rnix_proof_prefix.proofs.{Late.{AreFrom, AreLate, HasLate}, LateSteps.{late_step, late_runs}, CleanSteps.{HasNone, clean_step, clean_runs, all_late}}
use Rattle.rnix_proof_prefix.proofs.{BraceSteps.IsApart, SharedSteps.{IsShared, Goes, perform_shared}}

module _ (m : ℕ) (xs zs : List Token) (late : AreFrom m xs) where
  -- one step over both lists, with the same frames and shared items
  shared_step : (fs : List Frame) (t : Token) (q : List Token) (n : ℕ) (es : List Fault) → AreStacked fs → AreLate m fs → BeginAllFrom m es
      → end_undecided (t ∷ q) ≡ false → Goes m xs zs late (step_on false fs (t ∷ (q ++ xs)) n es) (step_on false fs (t ∷ (q ++ zs)) n es)
  shared_step [] t q n es k w g h = absurd k
  shared_step (f ∷ fs) t q n es k w g h =
      perform_shared m xs zs late (action_at f.position (head_kind (t ∷ q)) (touches n (t ∷ q))) f fs t q n es w g h

  -- what follows from each outcome of a step
  outcome : {C : Type 0} (now other : Machine) → (IsShared m xs zs late now other → C) → (IsApart m now → C) → other.faults ≡ []
      → Goes m xs zs late now other → C
  outcome now other f g h (inl v) = f v
  outcome now other f g h (inr (inl v)) = g v
  outcome now other f g h (inr (inr v)) = absurd (v h)

  -- frames that have nothing to report in a list without errors have nothing to report before a byte
  late_frames : (fs : List Frame) (ts us : List Token) (n : ℕ) (es : List Fault) → AreStacked fs → AreLate 0 fs → HasNone (machine fs us n es)
      → AreFrom m ts → HasLate m (machine fs ts n es)
  late_frames fs ts us n es k w c h = record { remaining = h; frames = all_late m fs c.0 w; faults = subst (BeginAllFrom m) (sym c.1) tt }

  -- both lists are read to their ends, the second without errors
  module _ (first second : Machine) (over : first.remaining ≡ []) (done : second.remaining ≡ []) (none : HasNone second) where
    -- from machines with the same frames and shared items on, the errors of the first list begin after these items, unless they end undecided
    together : {here there : Machine} (fs : List Frame) (q : List Token) (n : ℕ) (es : List Fault) → Runs false here first → Runs false there second
        → here ≡ machine fs (q ++ xs) n es → there ≡ machine fs (q ++ zs) n es → AreStacked fs → HasLate 0 here → end_undecided q ≡ false
        → BeginAllFrom m first.faults
    together fs [] n es r s h g k w d =
        let c : HasNone (machine fs zs n es) = clean_runs (subst (λ z. Runs false z second) g s) k none in
        (late_runs m (subst (λ z. Runs false z first) h r) k
        (late_frames fs xs zs n es k (subst (λ z. AreLate 0 z.frames) h w.frames) c late)).faults
    together fs (t ∷ q) n es here s h g k w d = absurd (not_nil (sym (ap (λ z. z.remaining) h) ∙ over))
    together fs (t ∷ q) n es r here h g k w d = absurd (not_nil (sym (ap (λ z. z.remaining) g) ∙ done))
    together {here} {there} fs (t ∷ q) n es (further r) (further s) h g k w d =
        let now : Machine = machine fs (t ∷ (q ++ xs)) n es in
        let other : Machine = machine fs (t ∷ (q ++ zs)) n es in
        let after : HasNone (step false other) = clean_runs (subst (λ z. Runs false (step false z) second) g s) (step_stacked false other k) none in
        let c : HasNone other = clean_step other k after in
        let v : HasLate 0 now = subst (HasLate 0) h w in
        let lateness : AreLate m fs = all_late m fs c.0 v.frames in
        outcome (step false now) (step false other)
        (λ o. together o.at.frames o.at.remaining o.at.prev_end o.at.faults r s (ap (step false) h ∙ o.first) (ap (step false) g ∙ o.second)
        (subst (λ z. AreStacked z.frames) o.first (step_stacked false now k)) (subst (λ z. HasLate 0 (step false z)) (sym h) (late_step 0 now k v)) o.decided)
        (λ o. o (step_stacked false now k) first (subst (λ z. Runs false (step false z) first) h r) over)
        after.1
        (shared_step fs t q n es k lateness (subst (BeginAllFrom m) (sym c.1) tt) d)

-- all items begin at byte 0 or after it
from_start : (ts : List Token) → AreFrom 0 ts
from_start [] = tt
from_start (t ∷ ts) = (omega arith, from_start ts)

-- if some items begin like others that are read without errors, their errors begin after the shared items, unless these end undecided
pub late_errors : (m : ℕ) (q xs zs : List Token) (first second : Machine) → AreFrom m xs → end_undecided q ≡ false
    → Runs false (initial_machine (q ++ xs)) first → Runs false (initial_machine (q ++ zs)) second → first.remaining ≡ [] → second.remaining ≡ []
    → HasNone second
    → BeginAllFrom m first.faults
late_errors m q xs zs first second late d r s over done none =
    together m xs zs late first second over done none (initial_machine q).frames q 0 [] r s refl refl (initial_stacked q)
    (record { remaining = from_start (q ++ xs); frames = (tt, tt); faults = tt }) d
