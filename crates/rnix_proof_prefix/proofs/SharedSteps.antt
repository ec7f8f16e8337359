-- Two lists that begin with the same items are read by the same steps as long as one of these items is left, or until an error is reported.
use Rattle.std.proofs.Common.{◌≡◌, ◌⊎◌, inl, inr, ℕ, suc, Bool, true, false, List, [], ◌∷◌, ◌++◌, Option, Some, refl, ap, sym, ◌∙◌, subst, if◌then◌else◌}
use Rattle.{std.proofs.Common.nat_le, rnix_kinds.specs.declared.kinds.SyntaxKind.{SyntaxKind, TheVariants.TOKEN_IDENT}}
use Rattle.rnix_kinds.specs.declared.kinds.SyntaxKind.TheVariants.{TOKEN_L_BRACE, TOKEN_R_BRACE, TOKEN_ELLIPSIS, TOKEN_LET, NODE_APPLY}
use Rattle.rnix_grammar.specs.{declared.{slot_table.TheConstants.APPLIED, action.Action.Action, operand_start.OperandStart.OperandStart}, Fault.{Fault, too_deep}}
use Rattle.rnix_grammar.specs.{Tables.depth_limit, OperandStarts.{is_pattern, kind_if, first_kind, operand_start_for, operand_start_of, second_kind}, AnnotatedForest.{Token, Stray, Unwanted}}
use Rattle.rnix_grammar.specs.{AnnotatedForest.{Extra, blank, head_kind}, Reports.report, UnwantedRun.run_of, Layout.tail_of}
use Rattle.rnix_proof_lemmas.specs.Machine.{Node, Operand, Frame, Machine, put, opened, min_bp_of, machine, begun, limited, operand_on}
use Rattle.rnix_proof_lemmas.{specs.Machine.{reading, perform}, proofs.{Basics.{choice, true_is_not_false, not_nil, none_right}, StackedFrames.BeginsInner}}
use Rattle.{rnix_proof_lemmas.proofs.StackedFrames.operand_start_inner, rnix_proof_prefix.specs.Prefix.{BeginAllFrom, are_undecided, end_undecided}}
use Rattle.rnix_proof_prefix.proofs.{Late.{AreFrom, AreLate}, LateSteps.begun_late, BraceSteps.{IsApart, late_apart, braces, IsBeforeThird, opened_apart}}
use Rattle.rnix_proof_lemmas.proofs.EachBeginning.{highest, kind_up_to, first_up_to, each_first}
use Rattle.std.proofs.Common.{None}
use Rattle.rnix_kinds.specs.declared.kinds.SyntaxKind.TheVariants.{NODE_LET_IN, NODE_LEGACY_LET}
use Rattle.rnix_grammar.specs.declared.position.Position.TheVariants as p
use Rattle.rnix_grammar.specs.declared.action.Action.TheVariants as a
use Rattle.rnix_grammar.specs.declared.operand_start.OperandStart.TheVariants as b

-- a machine with more items after those that are left
abbrev pub onto : List Token → Machine → Machine
onto ts now = machine now.frames (now.remaining ++ ts) now.prev_end now.faults

-- what holds of two pairs holds of a choice in both
pub choices : {A : Type 0} (P : A → A → Type 0) (b : Bool) {x y u v : A} → P x u → P y v → P (if b then x else y) (if b then u else v)
choices P true h k = h
choices P false h k = k

-- the item begins no operand
abbrev is_stray : OperandStart → Bool
is_stray b.Stray = true
is_stray how = false

-- whether an item begins an operand does not depend on the items after it
abbrev strays : ℕ → SyntaxKind → SyntaxKind → Bool
strays level kind k = is_stray (operand_start_for (kind_up_to (highest kind) level k) kind)

-- an old `let` begins an operand, as one with `in` does
old_let_strays : (w : Bool) → is_stray (operand_start_for (kind_if w NODE_LEGACY_LET) TOKEN_LET)
    ≡ is_stray (operand_start_for (kind_if w NODE_LET_IN) TOKEN_LET)
old_let_strays true = refl
old_let_strays false = refl

stray_alone : (level : ℕ) (kind : SyntaxKind) (text : List ℕ) (second third : Option SyntaxKind)
    → is_stray (operand_start_of level kind text second third) ≡ strays level kind (first_kind 0 kind [] None None)
stray_alone level kind text second third = ap (λ k. is_stray (operand_start_for k kind)) (first_up_to level kind text second third)
    ∙ each_first (λ kind next k. strays level kind k ≡ strays level kind (first_kind 0 kind [] None None))
    (λ next. assumption (old_let_strays (nat_le level 0))) kind text second third

stray_same : (level : ℕ) (kind : SyntaxKind) (text : List ℕ) (second third next after : Option SyntaxKind)
    → is_stray (operand_start_of level kind text second third) ≡ is_stray (operand_start_of level kind text next after)
stray_same level kind text second third next after = stray_alone level kind text second third ∙ sym (stray_alone level kind text next after)

-- the third item matters only after `{`
pub third_counts : (level : ℕ) (kind : SyntaxKind) (text : List ℕ) (second third other : Option SyntaxKind)
    → (kind ≡ TOKEN_L_BRACE) ⊎ (operand_start_of level kind text second third ≡ operand_start_of level kind text second other)
third_counts level TOKEN_L_BRACE text second third other = inl refl
third_counts level _ text second third other = inr refl

-- and there only before a name, `}` or `...`
pub pattern_counts : (kind : SyntaxKind) (third other : Option SyntaxKind)
    → IsBeforeThird kind ⊎ (is_pattern (Some kind) third ≡ is_pattern (Some kind) other)
pattern_counts TOKEN_IDENT third other = inl (inl refl)
pattern_counts TOKEN_R_BRACE third other = inl (inr (inl refl))
pattern_counts TOKEN_ELLIPSIS third other = inl (inr (inr refl))
pattern_counts _ third other = inr refl

-- if the shared items do not end undecided, neither do those after the first
tail_decided : (ts : List Token) → end_undecided ts ≡ false → end_undecided (tail_of ts) ≡ false
tail_decided [] h = refl
tail_decided (t ∷ []) h = refl
tail_decided (t ∷ (u ∷ [])) h = refl
tail_decided (t ∷ (u ∷ (v ∷ vs))) h = h

module _ (m : ℕ) (xs zs : List Token) (late : AreFrom m xs) where
  -- both machines have the same frames, errors and shared items left
  pub record IsShared (here there : Machine) : Type 0 where
    pub at : Machine
    pub first : here ≡ onto xs at
    pub second : there ≡ onto zs at
    pub decided : end_undecided at.remaining ≡ false

  -- or the errors of the first begin after the shared items, or the second has an error
  abbrev pub Goes : Machine → Machine → Type 0
  Goes here there = IsShared here there ⊎ (IsApart m here ⊎ (there.faults ≡ [] → ⊥))

  -- the second has an error
  wrong : (here there : Machine) (es : List Fault) (e : Fault) → there.faults ≡ es ++ e ∷ [] → Goes here there
  wrong here there es e h = inr (inr (λ none. not_nil (none_right es (e ∷ []) (sym h ∙ none))))

  -- both come from one machine, with the items of each list after it
  shared : (at : Machine) → end_undecided at.remaining ≡ false → Goes (onto xs at) (onto zs at)
  shared at h = inl (record { at = at; first = refl; second = refl; decided = h })

  -- an operand that begins with a shared item, in a given way
  begun_shared : (how : OperandStart) (level d : ℕ) (t u : Token) (f : Frame) (fs : List Frame) (q : List Token) (n : ℕ) (es : List Fault)
      → end_undecided (u ∷ q) ≡ false
      → Goes (begun false how level d t f fs (t ∷ (u ∷ (q ++ xs))) n es) (begun false how level d t f fs (t ∷ (u ∷ (q ++ zs))) n es)
  begun_shared b.LegacyLet level d t u f fs q n es h = shared (begun false b.LegacyLet level d t f fs (t ∷ (u ∷ q)) n es) (tail_decided (u ∷ q) h)
  begun_shared b.BoundLambda level d t u f fs q n es h = shared (begun false b.BoundLambda level d t f fs (t ∷ (u ∷ q)) n es) (tail_decided (u ∷ q) h)
  begun_shared how level d t u f fs q n es h = shared (begun false how level d t f fs (t ∷ (u ∷ q)) n es) h

  -- an operand that begins with the last shared item, in one way or another; or in neither list
  begun_last : (how other : OperandStart) → is_stray how ≡ is_stray other → (second : Option SyntaxKind) → BeginsInner second how
      → (level d : ℕ) (t : Token) (f : Frame) (fs : List Frame) (us : List Token) (n : ℕ) (es : List Fault)
      → AreLate m (f ∷ fs) → BeginAllFrom m es
      → Goes (begun false how level d t f fs (t ∷ xs) n es) (begun false other level d t f fs us n es)
  begun_last b.Stray b.Stray e second i level d t f fs us n es w g = wrong _ _ es (report Stray (t ∷ [])) refl
  begun_last b.Stray _ e second i level d t f fs us n es w g = absurd (true_is_not_false e)
  begun_last how other e second i level d t f fs us n es w g =
      inr (inl (late_apart m _ (begun_late m second how level d t f fs xs n es i tt late w g)))

  -- the next item, and after it the last shared one, begin an operand
  module _ (level d : ℕ) (f : Frame) (fs : List Frame) (t u : Token) (n : ℕ) (es : List Fault) (w : AreLate m (f ∷ fs)) (g : BeginAllFrom m es)
      (h : end_undecided (t ∷ (u ∷ [])) ≡ false) where
    abbrev Begun : OperandStart → OperandStart → Type 0
    Begun how other = Goes (begun false how level d t f fs (t ∷ (u ∷ xs)) n es) (begun false other level d t f fs (t ∷ (u ∷ zs)) n es)

    brace_pair : t.kind ≡ TOKEN_L_BRACE → (third other : Option SyntaxKind)
        → IsBeforeThird u.kind ⊎ (is_pattern (Some u.kind) third ≡ is_pattern (Some u.kind) other)
        → Begun (braces (is_pattern (Some u.kind) third)) (braces (is_pattern (Some u.kind) other))
    brace_pair e third other (inl (inr (inr k))) =
        absurd (true_is_not_false (sym (ap (λ z. are_undecided z u.kind) e ∙ ap (are_undecided TOKEN_L_BRACE) k) ∙ h))
    brace_pair e third other (inl (inr (inl k))) =
        inr (inl (opened_apart m xs late level d t f fs n es w g (is_pattern (Some u.kind) third) u (inr k)))
    brace_pair e third other (inl (inl k)) = inr (inl (opened_apart m xs late level d t f fs n es w g (is_pattern (Some u.kind) third) u (inl k)))
    brace_pair e third other (inr same) =
        subst (λ z. Begun (braces (is_pattern (Some u.kind) third)) (braces z)) same
        (begun_shared (braces (is_pattern (Some u.kind) third)) level d t u f fs [] n es refl)

    pair_shared : (third other : Option SyntaxKind)
        → (t.kind ≡ TOKEN_L_BRACE) ⊎ (operand_start_of level t.kind t.text (Some u.kind) third ≡ operand_start_of level t.kind t.text (Some u.kind) other)
        → Begun (operand_start_of level t.kind t.text (Some u.kind) third) (operand_start_of level t.kind t.text (Some u.kind) other)
    pair_shared third other (inl e) =
        subst (λ k. Begun (operand_start_of level k t.text (Some u.kind) third) (operand_start_of level k t.text (Some u.kind) other)) (sym e)
        (brace_pair e third other (pattern_counts u.kind third other))
    pair_shared third other (inr same) =
        subst (λ z. Begun (operand_start_of level t.kind t.text (Some u.kind) third) z) same
        (begun_shared (operand_start_of level t.kind t.text (Some u.kind) third) level d t u f fs [] n es refl)

  -- an operand of a level
  operand_shared : (level d : ℕ) (f : Frame) (fs : List Frame) (t : Token) (q : List Token) (n : ℕ) (es : List Fault)
      → AreLate m (f ∷ fs) → BeginAllFrom m es → end_undecided (t ∷ q) ≡ false
      → Goes (operand_on false level d f fs (t ∷ (q ++ xs)) (t ∷ (q ++ xs)) n es) (operand_on false level d f fs (t ∷ (q ++ zs)) (t ∷ (q ++ zs)) n es)
  operand_shared level d f fs t [] n es w g h =
      let how : OperandStart = operand_start_of level t.kind t.text (head_kind xs) (second_kind xs) in
      let other : OperandStart = operand_start_of level t.kind t.text (head_kind zs) (second_kind zs) in
      begun_last how other (stray_same level t.kind t.text (head_kind xs) (second_kind xs) (head_kind zs) (second_kind zs)) (head_kind xs)
      (operand_start_inner level t.kind t.text (head_kind xs) (second_kind xs)) level d t f fs (t ∷ zs) n es w g
  operand_shared level d f fs t (u ∷ []) n es w g h =
      pair_shared level d f fs t u n es w g h (head_kind xs) (head_kind zs) (third_counts level t.kind t.text (Some u.kind) (head_kind xs) (head_kind zs))
  operand_shared level d f fs t (u ∷ (v ∷ q)) n es w g h =
      begun_shared (operand_start_of level t.kind t.text (Some u.kind) (Some v.kind)) level d t u f fs (v ∷ q) n es h

  -- the same for an operand that is counted or not
  reading_shared : (level : ℕ) (counted : Bool) (f : Frame) (fs : List Frame) (t : Token) (q : List Token) (n : ℕ) (es : List Fault)
      → AreLate m (f ∷ fs) → BeginAllFrom m es → end_undecided (t ∷ q) ≡ false
      → Goes (reading false level counted f fs (t ∷ (q ++ xs)) n es) (reading false level counted f fs (t ∷ (q ++ zs)) n es)
  reading_shared level true f fs t q n es w g h =
      choices Goes (nat_le depth_limit f.depth)
      (wrong (limited false f fs (t ∷ (q ++ xs)) n es) (limited false f fs (t ∷ (q ++ zs)) n es) es too_deep refl)
      (operand_shared level (suc f.depth) f fs t q n es w g h)
  reading_shared level false f fs t q n es w g h = operand_shared level f.depth f fs t q n es w g h

  -- each action
  pub perform_shared : (action : Action) (f : Frame) (fs : List Frame) (t : Token) (q : List Token) (n : ℕ) (es : List Fault)
      → AreLate m (f ∷ fs) → BeginAllFrom m es → end_undecided (t ∷ q) ≡ false
      → Goes (perform false action f fs (t ∷ (q ++ xs)) n es) (perform false action f fs (t ∷ (q ++ zs)) n es)
  perform_shared action f fs t q n es w g h = by action fs w
    where
      one : end_undecided q ≡ false
      one = tail_decided (t ∷ q) h

      by : (action : Action) (fs : List Frame) → AreLate m (f ∷ fs)
          → Goes (perform false action f fs (t ∷ (q ++ xs)) n es) (perform false action f fs (t ∷ (q ++ zs)) n es)
      by a.Extra fs w = wrong _ _ es (report Extra (t ∷ (q ++ zs))) refl
      by (a.Run until after) fs w = wrong _ _ es (report (Unwanted until) (run_of until (t ∷ (q ++ zs)))) refl
      by (a.Read level counted after) fs w = reading_shared level counted (put (p.InRow after) f.children f) fs t q n es w g h
      by a.Apply fs w =
          reading_shared 16 false (opened (Node NODE_APPLY) (p.InRow APPLIED) f.depth f.children)
          (opened Operand (p.AfterOperand (min_bp_of f.position) 15) f.depth blank ∷ fs) t q n es (tt, (tt, w.1)) g h
      by action [] w = shared (perform false action f [] (t ∷ q) n es) (assumption (h, one))
      by action (g ∷ fs) w = shared (perform false action f (g ∷ fs) (t ∷ q) n es) (assumption (h, one))
