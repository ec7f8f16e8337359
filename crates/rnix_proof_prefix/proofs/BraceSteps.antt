-- After `{`, before a name or `}`, no error is reported at these items, whether a pattern or a set has begun.
use Rattle.std.proofs.Common.{◌≡◌, ℕ, Bool, true, false, List, [], ◌∷◌, refl, sym, ◌∙◌, subst, ◌⊎◌, inl, inr, if◌then◌else◌}
use Rattle.rnix_kinds.specs.declared.kinds.SyntaxKind.{SyntaxKind, TheVariants.{TOKEN_IDENT, TOKEN_L_BRACE, TOKEN_R_BRACE, TOKEN_ELLIPSIS, NODE_ATTR_SET, NODE_PATTERN}}
use Rattle.rnix_grammar.specs.{declared.operand_start.OperandStart.OperandStart, Fault.Fault, AnnotatedForest.Token}
use Rattle.rnix_proof_lemmas.{specs.{FrameKinds.AreStacked, Machine.{Frame, Machine, begun, step, Runs, rest as here, then as further}}, proofs.Basics.not_nil}
use Rattle.{rnix_proof_lemmas.proofs.StackedFrames.step_stacked, rnix_proof_prefix.{specs.Prefix.BeginAllFrom, proofs.Late.{AreFrom, AreLate, HasLate}}}
use Rattle.rnix_proof_prefix.proofs.LateSteps.{late_runs}
use Rattle.rnix_grammar.specs.OperandStarts.{operand_start_for}

-- however the text is read to its end from here, its errors begin at a byte or after it
abbrev pub IsApart : ℕ → Machine → Type 0
IsApart m now = AreStacked now.frames → (first : Machine) → Runs false now first → first.remaining ≡ [] → BeginAllFrom m first.faults

pub late_apart : (m : ℕ) (now : Machine) → HasLate m now → IsApart m now
late_apart m now w k first r over = (late_runs m r k w).faults

-- this holds before a step if it is after the step, while items are left
next_apart : (m : ℕ) (now : Machine) (t : Token) (ts : List Token) → now.remaining ≡ t ∷ ts → IsApart m (step false now) → IsApart m now
next_apart m now t ts e a k first here over = absurd (not_nil (sym e ∙ over))
next_apart m now t ts e a k first (further r) over = a (step_stacked false now k) first r over

-- an item of a kind
abbrev pub item : SyntaxKind → Token → Token
item kind u = record { kind = kind; text = u.text; start = u.start; end = u.end }

pub item_is : (kind : SyntaxKind) (u : Token) → u.kind ≡ kind → item kind u ≡ u
item_is kind u e = λ i. record { kind = sym e i; text = u.text; start = u.start; end = u.end }

-- a pattern or a set
abbrev pub braces : Bool → OperandStart
braces w = operand_start_for (if w then NODE_PATTERN else NODE_ATTR_SET) TOKEN_L_BRACE

-- the kinds before which the third item decides whether a pattern or a set begins
abbrev pub IsBeforeThird : SyntaxKind → Type 0
IsBeforeThird kind = (kind ≡ TOKEN_IDENT) ⊎ ((kind ≡ TOKEN_R_BRACE) ⊎ (kind ≡ TOKEN_ELLIPSIS))

module _ (m : ℕ) (xs : List Token) (late : AreFrom m xs) (level d : ℕ) (t : Token) (f : Frame) (fs : List Frame) (n : ℕ) (es : List Fault)
    (w : AreLate m (f ∷ fs)) (g : BeginAllFrom m es) where
  -- the machine after the opening brace, in a pattern or a set
  abbrev opened : Bool → Token → Machine
  opened pattern u = begun false (braces pattern) level d t f fs (t ∷ (u ∷ xs)) n es

  name_apart : (pattern : Bool) (u : Token) → IsApart m (opened pattern (item TOKEN_IDENT u))
  name_apart true u =
      let name : Token = item TOKEN_IDENT u in
      next_apart m (opened true name) name xs refl
      (late_apart m (step false (opened true name)) (record { remaining = late; frames = ((name, refl, tt), (tt, (tt, (tt, w)))); faults = g }))
  name_apart false u =
      let name : Token = item TOKEN_IDENT u in
      let first : Machine = step false (opened false name) in
      let second : Machine = step false first in
      next_apart m (opened false name) name xs refl (next_apart m first name xs refl (next_apart m second name xs refl
      (late_apart m (step false second) (record { remaining = late; frames = (tt, (tt, (tt, (tt, w)))); faults = g }))))

  brace_apart : (pattern : Bool) (u : Token) → IsApart m (opened pattern (item TOKEN_R_BRACE u))
  brace_apart true u =
      let brace : Token = item TOKEN_R_BRACE u in
      next_apart m (opened true brace) brace xs refl
      (late_apart m (step false (opened true brace)) (record { remaining = late; frames = (tt, (tt, (tt, w))); faults = g }))
  brace_apart false u =
      let brace : Token = item TOKEN_R_BRACE u in
      next_apart m (opened false brace) brace xs refl
      (late_apart m (step false (opened false brace)) (record { remaining = late; frames = (tt, (tt, w)); faults = g }))

  -- before such an item no error is reported at it
  pub opened_apart : (pattern : Bool) (u : Token) → (u.kind ≡ TOKEN_IDENT) ⊎ (u.kind ≡ TOKEN_R_BRACE) → IsApart m (opened pattern u)
  opened_apart pattern u (inl e) = subst (λ (z : Token). IsApart m (opened pattern z)) (item_is TOKEN_IDENT u e) (name_apart pattern u)
  opened_apart pattern u (inr e) = subst (λ (z : Token). IsApart m (opened pattern z)) (item_is TOKEN_R_BRACE u e) (brace_apart pattern u)
