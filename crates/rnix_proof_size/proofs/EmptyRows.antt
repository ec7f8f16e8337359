-- The nodes of a forest without tokens at the end of the text: those of what is nested too deep, and attribute paths.
use Rattle.std.proofs.Common.{◌≡◌, ◌≤◌, ℕ, suc, ◌+◌, Bool, true, false, List, [], ◌++◌, refl, ap, sym, ◌∙◌, subst, arith}
use Rattle.{rnix_kinds.specs.declared.kinds.SyntaxKind.{SyntaxKind, TheVariants.NODE_LITERAL}, rnix_grammar.specs.declared.rules.Part.TheVariants.Operand}
use Rattle.rnix_grammar.specs.{declared.rules.Part.TheVariants.Many, Fault.Fault, AnnotatedForest.{Token, Note, Stray, Unwanted, Extra, DoubleBind, TooDeep}}
use Rattle.rnix_grammar.specs.{AnnotatedForest.{AnnotatedForest, row_of, tokens_in}, Rules.{Row, ◌·◌, row, after, may_end, counts, expects_end, IsExpected}}
use Rattle.rnix_grammar.specs.Reads.{Reads, end, leaf, missing_part, wrong, second, inner, deeper, IsWrong}
use Rattle.rnix_proof_lemmas.proofs.{AnnotatedForestLemmas.tokens_in-row_of, Basics.{true_is_not_false, not_nil, none_remaining, none_right}, RowKinds.has_row}
use Rattle.rnix_proof_lemmas.proofs.ReachableRows.{IsKnown, is_viable, known_row, known_second, known_after, known_missing, known_wrong}
use Rattle.{rnix_proof_lemmas.proofs.ViableRows.{end_viable, reads_viable, reads_row}, rnix_proof_rows.proofs.RowsWithoutAttrpath.{has_no_attrpath, HasNoNode}}
use Rattle.{rnix_proof_rows.proofs.RowsWithoutAttrpath.{no_attrpath_row, row_some}, rnix_proof_size.proofs.{Counts.{nodes, nodes_row}, Bounds.{is_full, spare}}}
use Rattle.rnix_proof_size.proofs.{NodeBounds.{missing_spare, deep_spare, path_spare}, ClosedRows.nothing}

-- an error node without items is within the row's bound
empty_node : {i : SyntaxKind} (note : Note) (d n : ℕ) (q r : Row) (vs : List Token) → IsKnown i q → IsExpected q n [] false → IsWrong note d q r [] vs
    → suc (spare (is_full d) r) ≤ spare (is_full d) q
empty_node Stray d n q r vs i x w = absurd (omega (arith, w.0))
empty_node (Unwanted until) d n q r vs i x w = absurd (true_is_not_false (sym w.0))
empty_node Extra d n q r vs i x w = absurd (true_is_not_false (sym w.0))
empty_node DoubleBind d n q r vs i x w = absurd w
empty_node TooDeep d n q r vs i x w =
    subst (λ r. suc (spare (is_full d) r) ≤ spare (is_full d) q) w.3
    (subst (λ d. suc (spare (is_full d) (after q NODE_LITERAL)) ≤ spare (is_full d) q) (sym w.2) (deep_spare q i w.1 (asked q w.1 x)))
  where
    asked : (q : Row) → counts q ≡ true → IsExpected q n [] false → expects_end q ≡ false
    asked (Operand m counted · r) c x = x
    asked (Many m closer · r) c x = x
    asked _ c x = absurd (true_is_not_false (sym c))

-- a node without tokens is an attribute path, and within the row's bound
path_sum : {i : SyntaxKind} (v w : Bool) (q : Row) (k : SyntaxKind) (c f : AnnotatedForest) → IsKnown i q → is_viable (after q k) ≡ true → has_row k ≡ true
    → (has_no_attrpath q ≡ true → ⊥) → nodes c ≤ spare v (row k) → nodes f ≤ spare w (after q k) → suc (nodes c + nodes f) ≤ spare w q
path_sum v w q k c f i l h g inside rest = by (has_no_attrpath q) refl
  where
    by : (x : Bool) → has_no_attrpath q ≡ x → suc (nodes c + nodes f) ≤ spare w q
    by true b = absurd (g b)
    by false b =
        let more : suc (spare v (row k) + spare w (after q k)) ≤ spare w q = path_spare v w q k i l h b in
        omega (arith, inside, rest, more)

-- if no token is left, a forest has at most as many nodes as the row's bound allows
pub empty : {p : SyntaxKind} {d n : ℕ} {q q' : Row} {b : AnnotatedForest} {us : List Token} {f : AnnotatedForest} {es : List Fault}
    → Reads p d n q q' b us f es → IsKnown p q → may_end q' ≡ true → us ≡ [] → tokens_in f ≡ [] → (has_no_attrpath q ≡ true → HasNoNode f)
    → nodes f ≤ spare (is_full d) q
empty end i e u t g = omega arith
empty (leaf x o h) i e u t g = absurd (not_nil t)
empty {d = d} {q = q} (missing_part {r = r} {f = f} w v m o h) i e u t g =
    let n : IsKnown _ r = known_missing m i in
    let rest : nodes f ≤ spare (is_full d) r = empty h n e u t (λ b. no_attrpath_row h n (end_viable _ e) b u t) in
    let less : spare (is_full d) r ≤ spare (is_full d) q = missing_spare (is_full d) m i in
    omega (arith, rest, less)
empty {d = d} {n = n} {q = q} {us = us} (wrong {r = r} {f = f} note ts x o v h) i e u t g =
    let none : ts ≡ [] = sym (tokens_in-row_of ts) ∙ none_remaining (tokens_in (row_of ts)) (tokens_in f) t in
    let last : tokens_in f ≡ [] = none_right (tokens_in (row_of ts)) (tokens_in f) t in
    let k : IsKnown _ r = known_wrong note _ _ _ v i in
    let rest : nodes f ≤ spare (is_full d) r = empty h k e u last (λ b. no_attrpath_row h k (end_viable _ e) b u last) in
    let all : ts ++ (tokens_in f ++ us) ≡ [] = ap (λ ts. ts ++ (tokens_in f ++ us)) none ∙ ap (λ ts. ts ++ us) last ∙ u in
    let more : suc (spare (is_full d) r) ≤ spare (is_full d) q =
    empty_node note d n q r (tokens_in f ++ us) i (subst (λ ts. IsExpected q n ts false) all x)
    (subst (λ ts. IsWrong note d q r ts (tokens_in f ++ us)) none v) in
    let bare = nodes_row ts in
    omega (arith, rest, more, bare)
empty (second {c = c} {f = f} h y s) i e u t g = nothing (row_some h known_second refl y.0) (none_remaining (tokens_in c) (tokens_in f) t)
empty {d = d} {q = q} {us = us} (inner {k = k} {c = c} {f = f} o h y x w z s) i e u t g =
    let none : tokens_in c ≡ [] = none_remaining (tokens_in c) (tokens_in f) t in
    let last : tokens_in f ≡ [] = none_right (tokens_in c) (tokens_in f) t in
    let over : tokens_in f ++ us ≡ [] = ap (λ ts. ts ++ us) last ∙ u in
    let n : IsKnown _ (after q k) = known_after k i in
    path_sum (is_full (deeper q d)) (is_full d) q k c f i (reads_viable s (end_viable _ e)) (reads_row h y.0) g
    (empty h (known_row k) y.0 over none (λ b. no_attrpath_row h (known_row k) (end_viable _ y.0) b over none))
    (empty s n e u last (λ b. no_attrpath_row s n (end_viable _ e) b u last))
