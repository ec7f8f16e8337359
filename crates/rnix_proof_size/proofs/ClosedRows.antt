-- A forest that is read before more items has at most twice as many nodes as items, less the row's surplus.
use Rattle.std.proofs.{Common.{◌≡◌, ◌≤◌, ℕ, suc, ◌+◌, ◌*◌, true, List, [], ◌∷◌, ◌++◌, length, refl, ap, sym, ◌∙◌, subst, arith}, lemmas.List.length-append}
use Rattle.{rnix_kinds.specs.declared.kinds.SyntaxKind.{SyntaxKind, TheVariants.NODE_LITERAL}, rnix_grammar.specs.{Fault.Fault, AnnotatedForest.{Token, Note}}}
use Rattle.rnix_grammar.specs.{AnnotatedForest.{Stray, Unwanted, Extra, DoubleBind, TooDeep, AnnotatedForest, is_some, row_of, tokens_in, leaf_kind}, Rules.Row}
use Rattle.rnix_grammar.specs.{Rules.{row, after, may_end}, Reads.{Reads, end, leaf, missing_part, wrong, second, inner, IsWrong}}
use Rattle.rnix_proof_lemmas.proofs.{AnnotatedForestLemmas.tokens_in-row_of, Basics.true_is_not_false, ReachableRows.{IsKnown, is_viable, known_row}}
use Rattle.rnix_proof_lemmas.proofs.{ReachableRows.{known_second, known_after, known_past, known_wrong}, ViableRows.{end_viable, reads_viable, reads_row}}
use Rattle.rnix_proof_size.proofs.{Counts.{nodes, nodes_row}, Bounds.{surplus, ended_surplus}, NodeBounds.{leaf_kept, node_kept, run_kept}}

-- a list that ends with a nonempty one is not empty
pub some_right : (ts us : List Token) → is_some us ≡ true → is_some (ts ++ us) ≡ true
some_right [] us h = h
some_right (t ∷ ts) us h = refl

pub nothing : {A : Type 0} {us : List Token} → is_some us ≡ true → us ≡ [] → A
nothing h e = absurd (true_is_not_false (sym h ∙ ap is_some e))

pub some_length : (ts : List Token) → is_some ts ≡ true → 1 ≤ length ts
some_length [] h = absurd (true_is_not_false (sym h))
some_length (t ∷ ts) h = omega arith

-- the tokens of an error node and of the trees after it
pub row_tokens : (ts : List Token) (f : AnnotatedForest) → length (tokens_in (row_of ts) ++ tokens_in f) ≡ length ts + length (tokens_in f)
row_tokens ts f = length-append (tokens_in (row_of ts)) (tokens_in f) ∙ ap (λ xs. length xs + length (tokens_in f)) (tokens_in-row_of ts)

-- before more items, an error node contains items, and the row's surplus falls by at most one
record Kept (q r : Row) (ts : List Token) : Type 0 where
  pub items : 1 ≤ length ts
  pub rest : surplus q ≤ suc (surplus r)

wrong_kept : {i : SyntaxKind} (note : Note) (d : ℕ) (q r : Row) (ts vs : List Token) → IsWrong note d q r ts vs
    → IsKnown i q → is_viable r ≡ true → is_some vs ≡ true
    → Kept q r ts
wrong_kept Stray d q r ts vs w n l s =
    let one : length ts ≡ 1 = w.0 in
    let more : suc (surplus q) ≤ 2 + surplus (after q NODE_LITERAL) = node_kept q NODE_LITERAL n (ap is_viable w.3 ∙ l) refl in
    let less : surplus q ≤ suc (surplus (after q NODE_LITERAL)) = omega (arith, more) in
    record { items = omega (arith, one); rest = subst (λ r. surplus q ≤ suc (surplus r)) w.3 less }
wrong_kept (Unwanted until) d q r ts vs w n l s = record { items = some_length ts w.0; rest = run_kept w.2 n }
wrong_kept Extra d q r ts vs w n l s = nothing s w.1
wrong_kept DoubleBind d q r ts vs w n l s = absurd w
wrong_kept TooDeep d q r ts vs w n l s = nothing s w.0

-- the bound for a node and the trees after it, from those for its children and for these trees
sum_kept : (c f : AnnotatedForest) (a b q : ℕ) → nodes c + a ≤ 2 * length (tokens_in c) → nodes f + b ≤ 2 * length (tokens_in f) → suc q ≤ a + b
    → suc (nodes c + nodes f) + q ≤ 2 * length (tokens_in c ++ tokens_in f)
sum_kept c f a b q inside rest more = let all = length-append (tokens_in c) (tokens_in f) in omega (arith, all, inside, rest, more)

wrong_sum : (ts : List Token) (f : AnnotatedForest) (q r : ℕ) → nodes f + r ≤ 2 * length (tokens_in f) → 1 ≤ length ts → q ≤ suc r
    → suc (nodes (row_of ts) + nodes f) + q ≤ 2 * length (tokens_in (row_of ts) ++ tokens_in f)
wrong_sum ts f q r rest some less =
    let none = nodes_row ts in
    let all = row_tokens ts f in
    omega (arith, all, none, rest, some, less)

-- before more items, a forest has at most twice as many nodes as items, less the row's surplus
pub closed : {p : SyntaxKind} {d n : ℕ} {q q' : Row} {b : AnnotatedForest} {us : List Token} {f : AnnotatedForest} {es : List Fault}
    → Reads p d n q q' b us f es → IsKnown p q → may_end q' ≡ true → is_some us ≡ true → nodes f + surplus q ≤ 2 * length (tokens_in f)
closed {q = q} end i e s = let none : surplus q ≡ 0 = ended_surplus q e in omega (arith, none)
closed {p} {q = q} (leaf {t = t} {f = f} x o h) i e s =
    let k : SyntaxKind = leaf_kind p t in
    let rest : nodes f + surplus (after q k) ≤ 2 * length (tokens_in f) = closed h (known_after k i) e s in
    let kept : surplus q ≤ 2 + surplus (after q k) = leaf_kept q k i (reads_viable h (end_viable _ e)) in
    omega (arith, rest, kept)
closed {q = q} {us = us} (inner {k = k} {c = c} {f = f} o h y x w z t) i e s =
    sum_kept c f (surplus (row k)) (surplus (after q k)) (surplus q)
    (closed h (known_row k) y.0 (some_right (tokens_in f) us s)) (closed t (known_after k i) e s)
    (node_kept q k i (reads_viable t (end_viable _ e)) (reads_row h y.0))
closed (missing_part u t m o h) i e s = nothing s u
closed {d = d} {q = q} {us = us} (wrong {r = r} {f = f} note ts x o v h) i e s =
    let kept : Kept q r ts = wrong_kept note d q r ts (tokens_in f ++ us) v i (reads_viable h (end_viable _ e)) (some_right (tokens_in f) us s) in
    wrong_sum ts f (surplus q) (surplus r) (closed h (known_wrong note _ _ _ v i) e s) kept.items kept.rest
closed {us = us} (second {c = c} {f = f} h y t) i e s =
    sum_kept c f 3 0 0 (closed h known_second y.0 (some_right (tokens_in f) us s)) (closed t (known_past i) e s) (omega arith)
