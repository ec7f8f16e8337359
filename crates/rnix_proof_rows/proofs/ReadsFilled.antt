-- Which nodes of a forest that is read contain trees: those inside error nodes, and, without errors, all. Which error nodes contain tokens.
use Rattle.std.{specs.List.list_all, proofs.Common.{◌≡◌, ℕ, Bool, true, false, List, [], ◌∷◌, ◌++◌, refl, ap, sym, ◌∙◌, ◌&&◌, if◌then◌else◌}}
use Rattle.{std.proofs.lemmas.Bool.and_from, rnix_kinds.specs.declared.kinds.SyntaxKind.{SyntaxKind, TheVariants.{NODE_ERROR, NODE_IDENT, NODE_LITERAL}}}
use Rattle.{rnix_kinds.{specs.SyntaxKind.is_trivia, proofs.AllKinds.{all_kinds, implied}}, rnix_green.specs.Equality.{same_kind, same_kind-decides}}
use Rattle.rnix_grammar.specs.{declared.rules.Part.TheVariants.{BoundAlready, TextEnd}, Fault.Fault, AnnotatedForest.{Token, Note, AnnotatedForest, blank}}
use Rattle.rnix_grammar.specs.AnnotatedForest.{token, branch, fault, row_of, forget, tokens_in, is_some, Stray, Unwanted, Extra, DoubleBind, TooDeep}
use Rattle.rnix_grammar.specs.{AnnotatedForest.{without_trivia, token_if, leaf_kind}, Layout.{is_last, items}, Repaired.kinds_of, Rules.{Row, never, done, ◌·◌}}
use Rattle.rnix_grammar.specs.{Rules.{row, after, counts}, CompleteRows.is_row, Reads.{Reads, end, leaf, missing_part, wrong, second, inner, IsWrong}}
use Rattle.{rnix_grammar.specs.{Named.begins_with_token, Ranges.is_error_node}, rnix_proof_lemmas.proofs.Basics.{true_is_not_false, not_if, Where, where_one}}
use Rattle.rnix_proof_lemmas.proofs.{RowKinds.has_row, ReportLemmas.without_trivia_tokens, ReachableRows.{IsKnown, is_viable, each_known, known_row}}
use Rattle.rnix_proof_lemmas.proofs.{ReachableRows.{known_second, known_after, known_missing, known_wrong}, ViableRows.{end_viable, reads_viable, reads_row}}
use Rattle.rnix_proof_rows.proofs.{RowsWithoutAttrpath.{begins_with_child, row_some}, AttachTriviaLemmas.HasTree, RepairedRows.start_half}
use Rattle.rnix_proof_rows.proofs.ReadsShapes.{AreErrorFreeRows}

-- each node of a forest contains a tree, and none is an error node of the nesting limit
abbrev pub AreFilled : AnnotatedForest → Type 0
AreFilled blank = Unit {0}
AreFilled (token k t f) = AreFilled f
AreFilled (branch k c f) = HasTree c × AreFilled c × AreFilled f
AreFilled (fault n c f) = (is_last n ≡ false) × HasTree c × AreFilled c × AreFilled f

-- this holds inside each error node of a forest, whose error nodes themselves may be empty
abbrev pub AreFaultsFilled : AnnotatedForest → Type 0
AreFaultsFilled blank = Unit {0}
AreFaultsFilled (token k t f) = AreFaultsFilled f
AreFaultsFilled (branch k c f) = AreFaultsFilled c × AreFaultsFilled f
AreFaultsFilled (fault n c f) = AreFilled c × AreFaultsFilled c × AreFaultsFilled f

-- a forest of tokens has no nodes
row_filled : (ts : List Token) → AreFilled (row_of ts)
row_filled [] = tt
row_filled (t ∷ ts) = row_filled ts

row_faults : (ts : List Token) → AreFaultsFilled (row_of ts)
row_faults [] = tt
row_faults (t ∷ ts) = row_faults ts

row_tree : (ts : List Token) → is_some ts ≡ true → HasTree (row_of ts)
row_tree [] h = true_is_not_false (sym h)
row_tree (t ∷ ts) h = tt

-- a forest with tokens has a tree
tokens_tree : (f : AnnotatedForest) → is_some (tokens_in f) ≡ true → HasTree f
tokens_tree blank h = true_is_not_false (sym h)
tokens_tree _ h = tt

-- if the children of each node are a row of its kind, each node contains a tree
pub rows_filled : (f : AnnotatedForest) → AreErrorFreeRows f → AreFilled f
rows_filled blank h = tt
rows_filled (token k t f) h = rows_filled f h
rows_filled (branch k c f) h = (by c h.0, rows_filled c h.2, rows_filled f h.3)
  where
    by : (c : AnnotatedForest) → is_row k (kinds_of (forget c)) ≡ true → HasTree c
    by blank w = true_is_not_false (sym w ∙ start_half k)
    by _ w = tt
rows_filled (fault n c f) h = absurd h

-- the kinds of a name and of the error node for a second name
abbrev is_name_row : SyntaxKind → Bool
is_name_row NODE_IDENT = true
is_name_row NODE_ERROR = true
is_name_row kind = false

abbrev is_end : Row → Bool
is_end (TextEnd · r) = true
is_end (BoundAlready · r) = true
is_end r = false

-- each node that may be read at the row is a name
abbrev is_name_alone : Row → Bool
is_name_alone q = list_all (λ k. if has_row k && is_viable (after q k) then same_kind NODE_IDENT k else true) all_kinds

abbrev IsNameRow : SyntaxKind → Row → Type 0
IsNameRow i q = Where (is_name_row i) ((after q NODE_LITERAL ≡ never) × (counts q ≡ false) × (is_end q ≡ false) × (is_name_alone q ≡ true))

name_row : {i : SyntaxKind} (q : Row) → IsKnown i q → is_name_row i ≡ true
    → (after q NODE_LITERAL ≡ never) × (counts q ≡ false) × (is_end q ≡ false) × (is_name_alone q ≡ true)
name_row {i} q k h = where_one (is_name_row i) h (each_known IsNameRow (λ i. by (is_name_row i)) (assumption) i q k)
  where
    by : (w : Bool) → Where w ((never ≡ never) × (false ≡ false) × (false ≡ false) × (true ≡ true))
    by true = (refl, refl, refl, refl)
    by false = tt

name_row_name : {i : SyntaxKind} (q : Row) (k : SyntaxKind) → IsKnown i q → is_name_row i ≡ true → has_row k ≡ true → is_viable (after q k) ≡ true
    → k ≡ NODE_IDENT
name_row_name q k n h r l =
    sym ((same_kind-decides NODE_IDENT k).0 (implied (λ k. has_row k && is_viable (after q k)) (same_kind NODE_IDENT) (name_row q n h).3 k (and_from _ _ r l)))

-- an error node in such a row is a run
name_row_fault : {i : SyntaxKind} (note : Note) (d : ℕ) (q r : Row) (ts vs : List Token) → IsKnown i q → is_name_row i ≡ true → IsWrong note d q r ts vs
    → is_viable r ≡ true
    → (is_last note ≡ false) × (is_some ts ≡ true)
name_row_fault Stray d q r ts vs k h w l = absurd (true_is_not_false (sym l ∙ ap is_viable (sym w.3 ∙ (name_row q k h).0)))
name_row_fault (Unwanted until) d q r ts vs k h w l = (refl, w.0)
name_row_fault Extra d q r ts vs k h w l = absurd (true_is_not_false (sym (ap is_end w.2) ∙ (name_row q k h).2))
name_row_fault DoubleBind d q r ts vs k h w l = absurd w
name_row_fault TooDeep d q r ts vs k h w l = absurd (true_is_not_false (sym w.1 ∙ (name_row q k h).1))

-- in such a row, each node contains a tree
name_row_filled : {p : SyntaxKind} {d n : ℕ} {q q' : Row} {b : AnnotatedForest} {us : List Token} {f : AnnotatedForest} {es : List Fault}
    → Reads p d n q q' b us f es → IsKnown p q → is_viable q' ≡ true → is_name_row p ≡ true → AreFilled f
name_row_filled end i l m = tt
name_row_filled {p} (leaf {t = t} x o s) i l m = name_row_filled s (known_after (leaf_kind p t) i) l m
name_row_filled (missing_part u n z o s) i l m = name_row_filled s (known_missing z i) l m
name_row_filled {d = d} {q = q} {us = us} (wrong {r = r} {f = f} note ts x o v s) i l m =
    let w = name_row_fault note d q r ts (tokens_in f ++ us) i m v (reads_viable s l) in
    (w.0, row_tree ts w.1, row_filled ts, name_row_filled s (known_wrong note _ _ _ v i) l m)
name_row_filled {p} (second s y o) i l m = absurd (true_is_not_false (name_row (BoundAlready · done) i m).2)
name_row_filled {q = q} (inner {k = k} {c = c} o s y x j z t) i l m =
    let name : k ≡ NODE_IDENT = name_row_name q k i m (reads_row s y.0) (reads_viable t l) in
    let some : is_some (tokens_in c) ≡ true = row_some s (known_row k) (ap (λ k. begins_with_child (row k)) name) y.0 in
    (tokens_tree c some, name_row_filled s (known_row k) (end_viable _ y.0) (ap is_name_row name), name_row_filled t (known_after k i) l m)

-- no node inside an error node of a forest that is read is empty
pub reads_filled : {p : SyntaxKind} {d n : ℕ} {q q' : Row} {b : AnnotatedForest} {us : List Token} {f : AnnotatedForest} {es : List Fault}
    → Reads p d n q q' b us f es → AreFaultsFilled f
reads_filled end = tt
reads_filled (leaf x o s) = reads_filled s
reads_filled (missing_part u l m o s) = reads_filled s
reads_filled (wrong note ts x o v s) = (row_filled ts, row_faults ts, reads_filled s)
reads_filled (second s y x) = (name_row_filled s known_second (end_viable _ y.0) refl, reads_filled s, reads_filled x)
reads_filled (inner o s y x j z t) = (reads_filled s, reads_filled t)

-- an error node contains tokens, unless it is that of the nesting limit; that of a stray item or of a run begins with one
abbrev pub HasTokens : Note → AnnotatedForest → Type 0
HasTokens Stray c = begins_with_token c ≡ true
HasTokens (Unwanted until) c = begins_with_token c ≡ true
HasTokens TooDeep c = Unit {0}
HasTokens n c = is_some (tokens_in c) ≡ true

-- each error node of a forest contains such tokens, and no other node has the kind of an error node
abbrev pub HaveFaultTokens : AnnotatedForest → Type 0
HaveFaultTokens blank = Unit {0}
HaveFaultTokens (token k t f) = HaveFaultTokens f
HaveFaultTokens (branch k c f) = (is_error_node k ≡ false) × HaveFaultTokens c × HaveFaultTokens f
HaveFaultTokens (fault n c f) = HasTokens n c × HaveFaultTokens c × HaveFaultTokens f

-- an error node that is read contains its tokens
wrong_some : (note : Note) (d : ℕ) (q r : Row) (ts vs : List Token) → IsWrong note d q r ts vs → HasTokens note (row_of ts)
wrong_some TooDeep d q r ts vs w = tt
wrong_some Stray d q r [] vs w = absurd (cc)
wrong_some Stray d q r (t ∷ ts) vs w = refl
wrong_some (Unwanted until) d q r [] vs w = absurd (true_is_not_false (sym w.0))
wrong_some (Unwanted until) d q r (t ∷ ts) vs w = refl
wrong_some Extra d q r [] vs w = absurd (true_is_not_false (sym w.0))
wrong_some Extra d q r (t ∷ ts) vs w = refl
wrong_some DoubleBind d q r ts vs w = absurd w

-- leaves alone have no error nodes without tokens
marked-row_of : (ts : List Token) → HaveFaultTokens (row_of ts)
marked-row_of [] = tt
marked-row_of (t ∷ ts) = marked-row_of ts

-- the error nodes of a forest that is read have tokens
pub reads_fault_tokens : {p : SyntaxKind} {d n : ℕ} {q q' : Row} {b : AnnotatedForest} {us : List Token} {f : AnnotatedForest} {es : List Fault}
    → Reads p d n q q' b us f es → HaveFaultTokens f
reads_fault_tokens end = tt
reads_fault_tokens (leaf x o s) = reads_fault_tokens s
reads_fault_tokens (missing_part u l m o s) = reads_fault_tokens s
reads_fault_tokens {d = d} {q = q} {us = us} (wrong {r = r} {f = f} n ts x o v s) =
    (wrong_some n d q r ts (tokens_in f ++ us) v, marked-row_of ts, reads_fault_tokens s)
reads_fault_tokens (second s y x) = (row_some s known_second refl y.0, reads_fault_tokens s, reads_fault_tokens x)
reads_fault_tokens (inner {k = k} o s y x j z t) = (
  not_if (is_error_node k) (implied has_row (λ j. if is_error_node j then false else true) refl k (reads_row s y.0)),
  reads_fault_tokens s,
  reads_fault_tokens t,
)

-- if there are items, there are tokens
some_tokens : (ts : List Token) → is_some (items ts) ≡ true → is_some ts ≡ true
some_tokens [] h = h
some_tokens (t ∷ ts) h = refl

-- a forest that begins with a token when its trivia are removed begins with a token
begins_without_trivia : (c : AnnotatedForest) → begins_with_token (without_trivia c) ≡ true → begins_with_token c ≡ true
begins_without_trivia blank h = h
begins_without_trivia (token k t f) h = refl
begins_without_trivia (branch k c f) h = h
begins_without_trivia (fault n c f) h = h

-- an error node contains its tokens if it does without its trivia
fault_tokens_of : (n : Note) (c : AnnotatedForest) → HasTokens n (without_trivia c) → HasTokens n c
fault_tokens_of TooDeep c h = tt
fault_tokens_of Stray c h = begins_without_trivia c h
fault_tokens_of (Unwanted until) c h = begins_without_trivia c h
fault_tokens_of Extra c h = some_tokens (tokens_in c) (sym (ap is_some (without_trivia_tokens c)) ∙ h)
fault_tokens_of DoubleBind c h = some_tokens (tokens_in c) (sym (ap is_some (without_trivia_tokens c)) ∙ h)

fault_tokens_if : (x : Bool) (k : SyntaxKind) (t : Token) (f : AnnotatedForest) → HaveFaultTokens (token_if x k t f) → HaveFaultTokens f
fault_tokens_if true k t f h = h
fault_tokens_if false k t f h = h

-- so do all error nodes of a forest
pub fault_tokens_without_trivia : (f : AnnotatedForest) → HaveFaultTokens (without_trivia f) → HaveFaultTokens f
fault_tokens_without_trivia blank h = tt
fault_tokens_without_trivia (token k t f) h = fault_tokens_without_trivia f (fault_tokens_if (is_trivia t.kind) k t (without_trivia f) h)
fault_tokens_without_trivia (branch k c f) h = (h.0, fault_tokens_without_trivia c h.1, fault_tokens_without_trivia f h.2)
fault_tokens_without_trivia (fault n c f) h = (fault_tokens_of n c h.0, fault_tokens_without_trivia c h.1, fault_tokens_without_trivia f h.2)
