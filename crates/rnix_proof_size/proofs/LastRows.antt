-- The nodes of a forest with tokens, at the end of the text.
use Rattle.std.proofs.Common.{◌≡◌, ◌≤◌, ℕ, suc, ◌+◌, ◌*◌, Bool, true, false, List, [], ◌∷◌, ◌++◌, length, refl, ap, sym, ◌∙◌, subst, append-nil, arith}
use Rattle.{std.proofs.lemmas.List.length-append, rnix_kinds.specs.declared.kinds.SyntaxKind.SyntaxKind}
use Rattle.rnix_grammar.specs.{declared.rules.Part.TheVariants.BoundAlready, Fault.Fault, AnnotatedForest.{Token, Note, Stray, Unwanted, Extra, DoubleBind}}
use Rattle.rnix_grammar.specs.{AnnotatedForest.{TooDeep, AnnotatedForest, is_some, row_of, tokens_in, leaf_kind}, Rules.{Row, done, ◌·◌, row, second_name}}
use Rattle.rnix_grammar.specs.{Rules.{after, may_end, counts}, Reads.{Reads, end, leaf, missing_part, wrong, second, inner, deeper, IsWrong}}
use Rattle.rnix_proof_lemmas.proofs.{Basics.true_is_not_false, UnwantedRuns.some_remaining, ReachableRows.{IsKnown, is_viable, known_row, known_second, known_after}}
use Rattle.rnix_proof_lemmas.proofs.{ReachableRows.known_wrong, ViableRows.{end_viable, reads_viable, reads_row, past_ends}}
use Rattle.{rnix_proof_rows.proofs.RowsWithoutAttrpath.{begins_with_child, no_attrpath_row, row_some}, rnix_proof_size.proofs.Counts.{nodes, nodes_row}}
use Rattle.rnix_proof_size.proofs.{Bounds.{is_full, surplus, spare, excess}, EmptyRows.empty, ClosedRows.{nothing, some_length, row_tokens, closed}}
use Rattle.rnix_proof_size.proofs.EndBounds.{Goes, NodeGoes, leaf_goes, run_goes, stray_goes, deep_goes, extra_goes, second_goes, node_goes, room_inside}
use Rattle.rnix_proof_size.proofs.EndBounds.{room_here}

-- the rest of a forest has no tokens, or some, and is within its bound
record Tail (w : Bool) (r : Row) (f : AnnotatedForest) : Type 0 where
  pub begins : tokens_in f ≡ [] → begins_with_child r ≡ false
  pub none : tokens_in f ≡ [] → nodes f ≤ spare w r
  pub some : is_some (tokens_in f) ≡ true → nodes f + 2 ≤ 2 * length (tokens_in f) + excess w r

tail : {p : SyntaxKind} {d n : ℕ} {q q' : Row} {b : AnnotatedForest} {us : List Token} {f : AnnotatedForest} {es : List Fault}
    → Reads p d n q q' b us f es → IsKnown p q → may_end q' ≡ true → us ≡ []
    → (is_some (tokens_in f) ≡ true → nodes f + 2 ≤ 2 * length (tokens_in f) + excess (is_full d) q)
    → Tail (is_full d) q f
tail {q = q} {f = f} h i e u more = record {
  begins = λ t. by (begins_with_child q) refl t;
  none = λ t. empty h i e u t (λ b. no_attrpath_row h i (end_viable _ e) b u t);
  some = more;
}
  where
    by : (w : Bool) → begins_with_child q ≡ w → tokens_in f ≡ [] → begins_with_child q ≡ false
    by true b t = nothing (row_some h i b e) t
    by false b t = b

-- a statement about tokens, from both cases
ends : {A : Type 0} (ts : List Token) → (ts ≡ [] → A) → (is_some ts ≡ true → A) → A
ends [] none some = none refl
ends (t ∷ ts) none some = some refl

-- the bound for a leaf and the trees after it
leaf_sum : (w : Bool) (q r : Row) (f : AnnotatedForest) → Goes w 0 q r → Tail w r f → nodes f + 2 ≤ 2 * suc (length (tokens_in f)) + excess w q
leaf_sum w q r f g t = ends (tokens_in f) ends_here goes_on
  where
    ends_here : tokens_in f ≡ [] → nodes f + 2 ≤ 2 * suc (length (tokens_in f)) + excess w q
    ends_here e =
        let few : nodes f ≤ spare w r = t.none e in
        let less : 0 + spare w r ≤ excess w q = g.none (t.begins e) in
        omega (arith, few, less)

    goes_on : is_some (tokens_in f) ≡ true → nodes f + 2 ≤ 2 * suc (length (tokens_in f)) + excess w q
    goes_on s =
        let rest : nodes f + 2 ≤ 2 * length (tokens_in f) + excess w r = t.some s in
        let less : 0 + excess w r ≤ 2 + excess w q = g.some in
        omega (arith, rest, less)

-- the bound for an error node and the trees after it
wrong_sum : (w : Bool) (q r : Row) (ts : List Token) (f : AnnotatedForest) → Goes w 1 q r → Tail w r f → 1 ≤ length ts
    → suc (nodes (row_of ts) + nodes f) + 2 ≤ 2 * length (tokens_in (row_of ts) ++ tokens_in f) + excess w q
wrong_sum w q r ts f g t one = ends (tokens_in f) ends_here goes_on
  where
    bare : nodes (row_of ts) ≡ 0
    bare = nodes_row ts

    all : length (tokens_in (row_of ts) ++ tokens_in f) ≡ length ts + length (tokens_in f)
    all = row_tokens ts f

    ends_here : tokens_in f ≡ [] → suc (nodes (row_of ts) + nodes f) + 2 ≤ 2 * length (tokens_in (row_of ts) ++ tokens_in f) + excess w q
    ends_here e =
        let few : nodes f ≤ spare w r = t.none e in
        let less : 1 + spare w r ≤ excess w q = g.none (t.begins e) in
        omega (arith, one, bare, all, few, less)

    goes_on : is_some (tokens_in f) ≡ true → suc (nodes (row_of ts) + nodes f) + 2 ≤ 2 * length (tokens_in (row_of ts) ++ tokens_in f) + excess w q
    goes_on s =
        let rest : nodes f + 2 ≤ 2 * length (tokens_in f) + excess w r = t.some s in
        let less : 1 + excess w r ≤ 2 + excess w q = g.some in
        omega (arith, one, bare, all, rest, less)

-- the bound for a node and the trees after it: the text ends in the node, or later
node_sum : (v w : Bool) (q : Row) (k : SyntaxKind) (c f : AnnotatedForest) → NodeGoes v w q k → Tail w (after q k) f
    → (tokens_in f ≡ [] → nodes c + 2 ≤ 2 * length (tokens_in c) + excess v (row k))
    → (is_some (tokens_in f) ≡ true → nodes c + surplus (row k) ≤ 2 * length (tokens_in c))
    → suc (nodes c + nodes f) + 2 ≤ 2 * length (tokens_in c ++ tokens_in f) + excess w q
node_sum v w q k c f g t inside before = ends (tokens_in f) ends_here goes_on
  where
    all : length (tokens_in c ++ tokens_in f) ≡ length (tokens_in c) + length (tokens_in f)
    all = length-append (tokens_in c) (tokens_in f)

    ends_here : tokens_in f ≡ [] → suc (nodes c + nodes f) + 2 ≤ 2 * length (tokens_in c ++ tokens_in f) + excess w q
    ends_here e =
        let few : nodes f ≤ spare w (after q k) = t.none e in
        let own : nodes c + 2 ≤ 2 * length (tokens_in c) + excess v (row k) = inside e in
        let less : suc (excess v (row k) + spare w (after q k)) ≤ excess w q = g.none (t.begins e) in
        omega (arith, all, few, own, less)

    goes_on : is_some (tokens_in f) ≡ true → suc (nodes c + nodes f) + 2 ≤ 2 * length (tokens_in c ++ tokens_in f) + excess w q
    goes_on s =
        let rest : nodes f + 2 ≤ 2 * length (tokens_in f) + excess w (after q k) = t.some s in
        let own : nodes c + surplus (row k) ≤ 2 * length (tokens_in c) = before s in
        let less : suc (excess w (after q k)) ≤ excess w q + surplus (row k) = g.some in
        omega (arith, all, rest, own, less)

-- the bound along the row for an error node with items; what is nested too deep is the last
wrong_last : {i : SyntaxKind} (note : Note) (d : ℕ) (q r : Row) (ts : List Token) (f : AnnotatedForest) (us : List Token)
    → IsWrong note d q r ts (tokens_in f ++ us) → IsKnown i q → is_viable r ≡ true → us ≡ []
    → Tail (is_full d) r f → is_some (tokens_in (row_of ts) ++ tokens_in f) ≡ true
    → suc (nodes (row_of ts) + nodes f) + 2 ≤ 2 * length (tokens_in (row_of ts) ++ tokens_in f) + excess (is_full d) q
wrong_last {i} Stray d q r ts f us w n l u t s =
    let one : length ts ≡ 1 = w.0 in
    wrong_sum (is_full d) q r ts f
    (subst (Goes (is_full d) 1 q) w.3 (stray_goes (is_full d) q n (ap is_viable w.3 ∙ l) (room_here (counts q) d w.1))) t (omega (arith, one))
wrong_last (Unwanted until) d q r ts f us w n l u t s = wrong_sum (is_full d) q r ts f (run_goes (is_full d) w.2 n) t (some_length ts w.0)
wrong_last Extra d q r ts f us w n l u t s =
    wrong_sum (is_full d) q r ts f
    (subst (Goes (is_full d) 1 q) (sym w.3) (subst (λ q. Goes (is_full d) 1 q q) (sym w.2) (extra_goes (is_full d)))) t (some_length ts w.0)
wrong_last DoubleBind d q r ts f us w n l u t s = absurd w
wrong_last TooDeep d q r ts f us w n l u t s =
    let none : tokens_in f ≡ [] = sym (append-nil (tokens_in f)) ∙ ap (λ us. tokens_in f ++ us) (sym u) ∙ w.0 in
    let full : is_full d ≡ true = ap is_full w.2 in
    let few : nodes f ≤ spare (is_full d) r = t.none none in
    let own : suc (spare (is_full d) r) ≤ excess (is_full d) q =
    subst (λ v. suc (spare v r) ≤ excess v q) (sym full) (subst (λ r. suc (spare true r) ≤ excess true q) w.3 (deep_goes q n w.1)) in
    let bare : nodes (row_of ts) ≡ 0 = nodes_row ts in
    let all : length (tokens_in (row_of ts) ++ tokens_in f) ≡ length ts + length (tokens_in f) = row_tokens ts f in
    let one : 1 ≤ length (tokens_in (row_of ts) ++ tokens_in f) = some_length (tokens_in (row_of ts) ++ tokens_in f) s in
    let behind : length (tokens_in f) ≡ 0 = ap length none in
    omega (arith, few, own, bare, all, one, behind)

-- the node in which the text ends contains tokens
some_inside : (c f : AnnotatedForest) → is_some (tokens_in c ++ tokens_in f) ≡ true → tokens_in f ≡ [] → is_some (tokens_in c) ≡ true
some_inside c f s e = ap is_some (sym (append-nil (tokens_in c)) ∙ ap (λ ts. tokens_in c ++ ts) (sym e)) ∙ s

over : (f : AnnotatedForest) {us : List Token} → us ≡ [] → tokens_in f ≡ [] → tokens_in f ++ us ≡ []
over f u e = ap (λ us. tokens_in f ++ us) u ∙ append-nil (tokens_in f) ∙ e

-- at the end of the text, a forest has at most twice as many nodes as tokens, and a few more
pub last : {p : SyntaxKind} {d n : ℕ} {q q' : Row} {b : AnnotatedForest} {us : List Token} {f : AnnotatedForest} {es : List Fault}
    → Reads p d n q q' b us f es → IsKnown p q → may_end q' ≡ true → us ≡ [] → is_some (tokens_in f) ≡ true
    → nodes f + 2 ≤ 2 * length (tokens_in f) + excess (is_full d) q
last end i e u s = absurd (true_is_not_false (sym s))
last {p} {d = d} {q = q} (leaf {t = t} {f = f} x o h) i e u s =
    let k : SyntaxKind = leaf_kind p t in
    let n : IsKnown p (after q k) = known_after k i in
    leaf_sum (is_full d) q (after q k) f (leaf_goes (is_full d) q k i (reads_viable h (end_viable _ e))) (tail h n e u (last h n e u))
last (missing_part w t m o h) i e u s = nothing s t
last {d = d} {q = q} {us = us} (wrong {r = r} {f = f} note ts x o v h) i e u s =
    let n : IsKnown _ r = known_wrong note _ _ _ v i in
    wrong_last note d q r ts f us v i (reads_viable h (end_viable _ e)) u (tail h n e u (last h n e u)) s
last {d = d} (second {c = c} {f = f} h y t) i e u s =
    let past = past_ends t refl (end_viable _ e) in
    let none : tokens_in f ≡ [] = ap tokens_in past.no_trees in
    let own : nodes c + 2 ≤ 2 * length (tokens_in c) + excess (is_full d) second_name = last h known_second y.0 (over f u none) (some_inside c f s none) in
    let more : suc (excess (is_full d) second_name) ≤ excess (is_full d) (BoundAlready · done) = second_goes (is_full d) in
    let rest : nodes f ≡ 0 = ap nodes past.no_trees in
    let all : length (tokens_in c ++ tokens_in f) ≡ length (tokens_in c) + length (tokens_in f) = length-append (tokens_in c) (tokens_in f) in
    omega (arith, own, more, rest, all)
last {d = d} {q = q} {us = us} (inner {k = k} {c = c} {f = f} o h y x w z t) i e u s =
    let n : IsKnown _ (after q k) = known_after k i in
    node_sum (is_full (deeper q d)) (is_full d) q k c f
    (node_goes (is_full (deeper q d)) (is_full d) q k i (reads_viable t (end_viable _ e)) (reads_row h y.0) (room_inside (counts q) d o))
    (tail t n e u (last t n e u))
    (λ none. last h (known_row k) y.0 (over f u none) (some_inside c f s none))
    (λ more. closed h (known_row k) y.0 (some_remaining (tokens_in f) us more))
