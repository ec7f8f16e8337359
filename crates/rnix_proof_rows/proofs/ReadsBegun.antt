-- In a repaired forest, apart from numbers that replace no token, each node's children begin a row of its kind.
use Rattle.std.proofs.Common.{◌≡◌, ℕ, true, false, List, [], ◌∷◌, ◌++◌, refl, ap, sym, ◌∙◌, subst, if◌then◌else◌}
use Rattle.{rnix_kinds.specs.declared.kinds.SyntaxKind.SyntaxKind, rnix_green.specs.Forest.{Forest, empty}, rnix_grammar.specs.Fault.Fault}
use Rattle.rnix_grammar.specs.AnnotatedForest.{Token, Note, Stray, TooDeep, AnnotatedForest, blank, token, branch, fault, row_of, tokens_in, is_some, leaf_kind}
use Rattle.rnix_grammar.specs.{Rules.{Row, row, after, may_end}, CompleteRows.{after_all, IsBeginning}, Reads.{Reads, end, leaf, missing_part, wrong, second}}
use Rattle.rnix_grammar.specs.{Reads.{inner, IsWrong}, Repaired.{repair, repaired_nonempty, kinds_of, AreBegun}}
use Rattle.rnix_proof_lemmas.proofs.{AnnotatedForestLemmas.tokens_in-row_of, Basics.{not_nil, none_remaining, none_right}, ReachableRows.{IsKnown, is_viable}}
use Rattle.rnix_proof_lemmas.proofs.{ReachableRows.{known_row, known_after, known_missing, known_past, known_wrong}, ViableRows.{end_viable, reads_viable}}
use Rattle.rnix_proof_rows.proofs.{RowsWithoutAttrpath.{missing_no_attrpath, HasNoNode, no_attrpath_row, wrong_empty}, RepairedRows.{IsCompletable, completed}}
use Rattle.rnix_proof_rows.proofs.RepairedRows.{Simulates, simulates_self, simulates_same, simulates_both, simulates_completable, second_simulates}
use Rattle.rnix_proof_rows.proofs.RepairedRows.{after_repair, wrong_simulates}

-- a repaired forest of error nodes without tokens is empty
nonempty_none : (f : AnnotatedForest) → HasNoNode f → tokens_in f ≡ [] → repaired_nonempty f ≡ empty
nonempty_none blank h n = refl
nonempty_none (token k t f) h n = absurd (not_nil n)
nonempty_none (branch k c f) h n = absurd h
nonempty_none (fault note c f) h n =
    ap (λ o. if is_some o then repair note (repaired_nonempty f) else repaired_nonempty f) (none_remaining (tokens_in c) (tokens_in f) n)
    ∙ nonempty_none f h (none_right (tokens_in c) (tokens_in f) n)

-- the children so far begin a row that can be completed, and so do those of each node among them
pub record IsBegun (q : Row) (f : Forest) : Type 0 where
  pub row : IsCompletable (after_all q (kinds_of f))
  pub nodes : AreBegun f

-- an empty forest begins a row that can be completed
none_begun : (q : Row) (f : Forest) → f ≡ empty → IsCompletable q → IsBegun q f
none_begun q f n w = subst (IsBegun q) (sym n) (record { row = w; nodes = tt })

-- the first children of a row that can be completed begin a row of the kind
pub beginning : (k : SyntaxKind) (ks : List SyntaxKind) → IsCompletable (after_all (row k) ks) → IsBeginning k ks
beginning k ks w = record { more = w.0; is = w.1 }

-- if a forest begins the row after the repair of an error node, the repair and the forest begin the row
begun_repair : (n : Note) (q : Row) (f : Forest) → IsBegun (after_repair n q) f → IsBegun q (repair n f)
begun_repair Stray q f h = record { row = h.row; nodes = (record { more = []; is = refl }, tt, h.nodes) }
begun_repair TooDeep q f h = record { row = h.row; nodes = (record { more = []; is = refl }, tt, h.nodes) }
begun_repair _ q f h = assumption

-- the children of each node of a forest that is read, and the forest itself, begin their rows
pub reads_begun : {p : SyntaxKind} {d n : ℕ} {q q' : Row} {b : AnnotatedForest} {us : List Token} {f : AnnotatedForest} {es : List Fault} (q0 : Row)
    → Reads p d n q q' b us f es → may_end q' ≡ true → IsKnown p q → Simulates q0 q → IsBegun q0 (repaired_nonempty f)
reads_begun q0 end w i m = record { row = ([], m.ends ∙ w); nodes = tt }
reads_begun {p} {q = q} q0 (leaf {t = t} x o h) w i m =
    let k : SyntaxKind = leaf_kind p t in
    let on : after q0 k ≡ after q k = m.goes k (reads_viable h (end_viable _ w)) in
    let more = reads_begun (after q0 k) h w (known_after k i) (simulates_same (after q0 k) (after q k) on) in
    record { row = more.row; nodes = more.nodes }
reads_begun {q = q} q0 (missing_part {f = f} u n l room h) w i m =
    let lives : is_viable q ≡ true = reads_viable (missing_part u n l room h) (end_viable _ w) in
    none_begun q0 (repaired_nonempty f) (nonempty_none f (no_attrpath_row h (known_missing l i) (end_viable _ w) (missing_no_attrpath i l) u n) n)
    (simulates_completable m (completed q i lives))
reads_begun {p} {d} {q = q} {us = us} q0 (wrong {r = r} {f = f} n ts x o v h) w i m =
    by_tokens ts refl (simulates_completable m (completed q i (reads_viable (wrong n ts x o v h) (end_viable _ w))))
    (reads_begun (after_repair n q0) h w (known_wrong n _ _ _ v i) (wrong_simulates n d q0 q r ts (tokens_in f ++ us) i v (reads_viable h (end_viable _ w)) m))
  where
    by_tokens : (xs : List Token) → ts ≡ xs → IsCompletable q0 → IsBegun (after_repair n q0) (repaired_nonempty f)
        → IsBegun q0 (repaired_nonempty (fault n (row_of ts) f))
    by_tokens [] e here more =
        let empty = wrong_empty n d q r (tokens_in f ++ us) i (subst (λ z. IsWrong n d q r z (tokens_in f ++ us)) e v) in
        let last : tokens_in f ≡ [] = none_remaining (tokens_in f) us empty.2 in
        none_begun q0 (repaired_nonempty (fault n (row_of ts) f)) (ap (λ o. if is_some o then repair n (repaired_nonempty f) else repaired_nonempty f)
        (tokens_in-row_of ts ∙ e)
        ∙ nonempty_none f (no_attrpath_row h (known_wrong n _ _ _ v i) (end_viable _ w) empty.1 (none_right (tokens_in f) us empty.2) last) last) here
    by_tokens (t ∷ xs) e here more =
        subst (IsBegun q0) (ap (λ o. if is_some o then repair n (repaired_nonempty f) else repaired_nonempty f) (sym (tokens_in-row_of ts ∙ e)))
        (begun_repair n q0 (repaired_nonempty f) more)
reads_begun q0 (second {c = c} {f = f} s y h) w i m =
    subst (IsBegun q0)
    (elim (is_some (tokens_in c)) as (λ u. repaired_nonempty f ≡ (if u then repaired_nonempty f else repaired_nonempty f)) [ true ↦ refl | false ↦ refl ])
    (reads_begun q0 h w (known_past i) (simulates_both m second_simulates))
reads_begun {q = q} q0 (inner {k = k} {c = c} o s y x j z h) w i m =
    let on : after q0 k ≡ after q k = m.goes k (reads_viable h (end_viable _ w)) in
    let more = reads_begun (after q0 k) h w (known_after k i) (simulates_same (after q0 k) (after q k) on) in
    let inside = reads_begun (row k) s y.0 (known_row k) (simulates_self (row k)) in
    record { row = more.row; nodes = (beginning k (kinds_of (repaired_nonempty c)) inside.row, inside.nodes, more.nodes) }
