-- A reading along a row that can end passes only rows that can. A complete row is complete by its children.
use Rattle.std.proofs.Common.{◌≡◌, ℕ, true, false, List, [], ◌∷◌, ◌++◌, Option, Some, None, refl, ap, sym, ◌∙◌, subst}
use Rattle.rnix_kinds.{specs.declared.kinds.SyntaxKind.{SyntaxKind, TheVariants.NODE_LITERAL}, proofs.AllKinds.implied}
use Rattle.rnix_grammar.specs.{Fault.Fault, Tables.wanted_kinds, Rules.{Row, never, done, row, after, may_end, missing, run_at}, CompleteRows.{after_all, is_row}}
use Rattle.rnix_grammar.specs.AnnotatedForest.{Token, Note, Stray, Unwanted, Extra, DoubleBind, TooDeep, AnnotatedForest, blank, tokens_in, leaf_kind}
use Rattle.rnix_grammar.specs.Reads.{Reads, end, leaf, inner, missing_part, wrong, second, IsWrong}
use Rattle.rnix_proof_lemmas.proofs.{Basics.true_is_not_false, ReachableRows.is_viable, RowKinds.has_row}

-- a row that is viable after a child was viable before it
pub viable_before : (r : Row) (k : SyntaxKind) → is_viable (after r k) ≡ true → is_viable r ≡ true
viable_before never k h = h
viable_before _ k h = refl

-- a complete row is viable
pub end_viable : (r : Row) → may_end r ≡ true → is_viable r ≡ true
end_viable never h = h
end_viable _ h = refl

-- so is a row in which a part is missing or a run is read
missing_viable : (q r : Row) (e : Fault) → missing q ≡ Some (e, r) → is_viable q ≡ true
missing_viable never r e h = absurd (cc)
missing_viable _ r e h = refl

run_viable : (q r : Row) (ks : List SyntaxKind) → run_at q ≡ Some (ks, r) → is_viable q ≡ true
run_viable never r ks h = absurd (cc)
run_viable _ r ks h = refl

pub wrong_viable : (note : Note) (d : ℕ) (q r : Row) (ts us : List Token) → IsWrong note d q r ts us → is_viable r ≡ true → is_viable q ≡ true
wrong_viable Stray d q r ts us h l = viable_before q NODE_LITERAL (ap is_viable h.3 ∙ l)
wrong_viable (Unwanted until) d q r ts us h l = run_viable q r (wanted_kinds until) h.2
wrong_viable Extra d q r ts us h l = ap is_viable h.2
wrong_viable DoubleBind d q r ts us h l = absurd h
wrong_viable TooDeep d q r ts us h l = viable_before q NODE_LITERAL (ap is_viable h.3 ∙ l)

pub reads_viable : {p : SyntaxKind} {d n : ℕ} {q r : Row} {b : AnnotatedForest} {us : List Token} {f : AnnotatedForest} {es : List Fault}
    → Reads p d n q r b us f es → is_viable r ≡ true → is_viable q ≡ true
reads_viable end l = l
reads_viable {p} {q = q} (leaf {t = t} x w h) l = viable_before q (leaf_kind p t) (reads_viable h l)
reads_viable {q = q} (inner {k = k} hi hs ho hx hj hk h) l = viable_before q k (reads_viable h l)
reads_viable {q = q} (missing_part {r = r} {e = e} hu hf hm hr h) l = missing_viable q r e hm
reads_viable {d = d} {q = q} {us = us} (wrong {r = r} {f = f} note ts hx hw hi h) l = wrong_viable note d q r ts (tokens_in f ++ us) hi (reads_viable h l)
reads_viable (second hs ho h) l = refl

-- a kind whose row is viable has rows
viable_row : (k : SyntaxKind) → is_viable (row k) ≡ true → has_row k ≡ true
viable_row = implied (λ k. is_viable (row k)) has_row refl

pub reads_row : {k : SyntaxKind} {d n : ℕ} {s : Row} {b : AnnotatedForest} {us : List Token} {f : AnnotatedForest} {es : List Fault}
    → Reads k d n (row k) s b us f es → may_end s ≡ true → has_row k ≡ true
reads_row {k} h w = viable_row k (reads_viable h (end_viable _ w))

-- no children continue `never`
pub nowhere : (ks : List SyntaxKind) → after_all never ks ≡ never
nowhere [] = refl
nowhere (k ∷ ks) = nowhere ks

pub later_viable : (r : Row) (ks : List SyntaxKind) → may_end (after_all r ks) ≡ true → is_viable r ≡ true
later_viable never ks h = absurd (true_is_not_false (sym h ∙ ap may_end (nowhere ks)))
later_viable _ ks h = refl

-- a node whose children are a complete row is of a kind that has rows
pub complete_has_row : (k : SyntaxKind) (ks : List SyntaxKind) → is_row k ks ≡ true → has_row k ≡ true
complete_has_row k ks h = viable_row k (later_viable (row k) ks h)

-- nothing is read after the last part of a row
pub record Ended (f : AnnotatedForest) (es : List Fault) : Type 0 where
  pub no_trees : f ≡ blank
  pub faults : es ≡ []

no_more : {A : Type 0} {r : Row} → r ≡ never → is_viable r ≡ true → A
no_more e l = absurd (true_is_not_false (sym l ∙ ap is_viable e))

-- no error node is read after the last part
wrong_past : {A : Type 0} (note : Note) (d : ℕ) (r : Row) (ts us : List Token) → IsWrong note d done r ts us → is_viable r ≡ true → A
wrong_past Stray d r ts us w l = no_more (sym w.3) l
wrong_past (Unwanted until) d r ts us w l = absurd (cc)
wrong_past Extra d r ts us w l = absurd (cc)
wrong_past DoubleBind d r ts us w l = absurd w
wrong_past TooDeep d r ts us w l = no_more (sym w.3) l

-- a reading that begins after the last part of a row is empty
pub past_ends : {k : SyntaxKind} {d n : ℕ} {q s : Row} {b : AnnotatedForest} {us : List Token} {f : AnnotatedForest} {es : List Fault}
    → Reads k d n q s b us f es
    → q ≡ done → is_viable s ≡ true → Ended f es
past_ends end e l = record { no_trees = refl; faults = refl }
past_ends {k} {q = q} (leaf {t = t} x o h) e l = no_more (ap (λ q. after q (leaf_kind k t)) e) (reads_viable h l)
past_ends {q = q} (inner {k = j} o s y x w z h) e l = no_more (ap (λ q. after q j) e) (reads_viable h l)
past_ends (missing_part u n m o h) e l = absurd (lost (sym m ∙ ap missing e))
  where
    lost : {w : Fault × Row} → Some w ≡ None → ⊥
    lost h = cc
past_ends {d = d} {us = us} (wrong {r = r} {f = f} note ts x o v h) e l =
    wrong_past note d r ts (tokens_in f ++ us) (subst (λ q. IsWrong note d q r ts (tokens_in f ++ us)) e v) (reads_viable h l)
past_ends (second s y h) e l = absurd (cc)
