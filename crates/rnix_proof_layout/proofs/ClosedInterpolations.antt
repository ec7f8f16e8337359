-- A complete interpolation ends with its closing token, unless the text has ended.
use Rattle.std.proofs.Common.{◌≡◌, ℕ, true, false, List, [], ◌∷◌, ◌++◌, Option, Some, ap, sym, ◌∙◌, subst, ◌⊎◌, inl, inr}
use Rattle.rnix_kinds.specs.declared.kinds.SyntaxKind.{SyntaxKind, TheVariants.{TOKEN_INTERPOL_START, TOKEN_INTERPOL_END, NODE_INTERPOL}}
use Rattle.rnix_grammar.specs.{declared.rules.Part.TheVariants.{Child, Operand, Wanted}, Fault.Fault, AnnotatedForest.{Token, Note, Stray, Unwanted, Extra}}
use Rattle.rnix_grammar.specs.{AnnotatedForest.{DoubleBind, TooDeep, AnnotatedForest, tokens_in, leaf_kind, row_of}, Rules.{Row, done, ◌·◌, after, may_end}}
use Rattle.{rnix_grammar.specs.Reads.{Reads, IsWrong, end, leaf, inner, missing_part, wrong, second}, rnix_proof_lemmas.proofs.Basics.true_is_not_false}
use Rattle.rnix_proof_lemmas.proofs.{Basics.{none_right, some_same, Where, where_one}, EachKind.each_kind, RowKinds.has_row, ReachableRows.is_viable}
use Rattle.{rnix_proof_lemmas.proofs.ViableRows.{reads_viable, end_viable, reads_row, past_ends}, rnix_proof_layout.proofs.Touch.{last_kind, last_two}}

-- the rests of the row of an interpolation before it is closed
pub data IsInside : Row → Type 0 where
  at_start : IsInside (Child TOKEN_INTERPOL_START · (Operand 0 true · (Wanted TOKEN_INTERPOL_END · done)))
  at_operand : IsInside (Operand 0 true · (Wanted TOKEN_INTERPOL_END · done))
  at_end : IsInside (Wanted TOKEN_INTERPOL_END · done)

-- the last item is the closing token, or no item is left
abbrev pub Closes : List Token → List Token → Type 0
Closes ts us = (us ≡ []) ⊎ ((prev : Option SyntaxKind) → last_kind prev ts ≡ Some TOKEN_INTERPOL_END)

closes_after : (xs ts us : List Token) → Closes ts us → Closes (xs ++ ts) us
closes_after xs ts us (inl e) = inl e
closes_after xs ts us (inr h) = inr (λ prev. last_two prev xs ts ∙ h (last_kind prev xs))

-- after a child the interpolation is still open, or the child closes it
abbrev GoesOn : Row → SyntaxKind → Type 0
GoesOn r k = IsInside r ⊎ ((r ≡ done) × (k ≡ TOKEN_INTERPOL_END))

dead : {A : Type 0} → false ≡ true → A
dead h = absurd (true_is_not_false (sym h))

goes_on : (q : Row) → IsInside q → (k : SyntaxKind) → is_viable (after q k) ≡ true → GoesOn (after q k) k
goes_on q at_start k l =
    inl (where_one (is_viable (after q k)) l (each_kind (λ k. Where (is_viable (after q k)) (IsInside (after q k))) (assumption (at_operand)) k))
goes_on q at_operand k l = inl (where_one (is_viable (after q k)) l
    (each_kind (λ k. Where (is_viable (after q k)) (IsInside (after q k))) (assumption (at_end)) k))
goes_on q at_end k l =
    inr (where_one (is_viable (after q k)) l (each_kind (λ k. Where (is_viable (after q k)) ((after q k ≡ done) × (k ≡ TOKEN_INTERPOL_END))) (assumption) k))

-- after an error node the interpolation is still open, or no item is left
wrong_inside : (q r : Row) → IsInside q → (note : Note) (d : ℕ) (ts us : List Token) → IsWrong note d q r ts us → is_viable r ≡ true → IsInside r ⊎ (us ≡ [])
wrong_inside q r at_start Stray d ts us w l = dead (ap is_viable w.3 ∙ l)
wrong_inside q r at_operand Stray d ts us w l = inl (subst IsInside w.3 at_end)
wrong_inside q r at_end Stray d ts us w l = dead (ap is_viable w.3 ∙ l)
wrong_inside q r at_start (Unwanted until) d ts us w l = absurd (cc)
wrong_inside q r at_operand (Unwanted until) d ts us w l = absurd (cc)
wrong_inside q r at_end (Unwanted until) d ts us w l = inl (subst IsInside (ap (λ z. z.1) (some_same _ _ w.2)) at_end)
wrong_inside q r i Extra d ts us w l = inr w.1
wrong_inside q r i DoubleBind d ts us w l = absurd w
wrong_inside q r i TooDeep d ts us w l = inr w.0

-- the interpolation closes after a child or an error node, whichever case it is
either : (r : Row) (xs ts us : List Token) {A : Type 0} → IsInside r ⊎ A → (IsInside r → Closes ts us) → (A → Closes (xs ++ ts) us) → Closes (xs ++ ts) us
either r xs ts us (inl j) more over = closes_after xs ts us (more j)
either r xs ts us (inr g) more over = over g

-- an interpolation that is open at first is closed when its row is complete
pub closes : {p : SyntaxKind} {d n : ℕ} {q s : Row} {b f : AnnotatedForest} {us : List Token} {es : List Fault} → Reads p d n q s b us f es
    → p ≡ NODE_INTERPOL → IsInside q → may_end s ≡ true → Closes (tokens_in f) us
closes end e at_start w = dead w
closes end e at_operand w = dead w
closes end e at_end w = dead w
closes {p} {q = q} {s = s} {us = us} (leaf {t = t} {f = f} x o h) e i w =
    either (after q (leaf_kind p t)) (t ∷ []) (tokens_in f) us (goes_on q i (leaf_kind p t) (reads_viable h (end_viable s w))) (λ j. closes h e j w)
    (λ g. inr (λ prev. ap (λ f. last_kind (Some t.kind) (tokens_in f)) (past_ends h g.0 (end_viable s w)).no_trees
    ∙ ap Some (sym (ap (λ p. leaf_kind p t) e) ∙ g.1)))
closes {p} {q = q} {s = s} {us = us} (inner {k = k} {c = c} {f = f} o r v x z y h) e i w =
    either (after q k) (tokens_in c) (tokens_in f) us (goes_on q i k (reads_viable h (end_viable s w))) (λ j. closes h e j w)
    (λ g. dead (sym (ap has_row g.1) ∙ reads_row r v.0))
closes (missing_part u n m o h) e i w = inl u
closes {d = d} {q = q} {s = s} {us = us} (wrong {r = r} {f = f} note ts x o v h) e i w =
    either r (tokens_in (row_of ts)) (tokens_in f) us (wrong_inside q r i note d ts (tokens_in f ++ us) v (reads_viable h (end_viable s w)))
    (λ j. closes h e j w)
    (λ g. inl (none_right (tokens_in f) us g))
closes (second r o h) e i w = elim i [ ]
