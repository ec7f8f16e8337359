-- Leaves have the kinds of tokens; in a forest that is read each leaf has the kind of its token, and each name holds that token alone.
use Rattle.std.proofs.Common.{◌≡◌, ℕ, Bool, true, false, List, refl, ap, ◌∙◌, [], ◌∷◌, ◌++◌, sym, subst}
use Rattle.rnix_kinds.specs.declared.kinds.SyntaxKind.{SyntaxKind, TheVariants.{TOKEN_CUR_POS, TOKEN_IDENT, TOKEN_OR, NODE_CUR_POS, NODE_IDENT, NODE_ERROR}}
use Rattle.rnix_kinds.specs.{declared.kinds.SyntaxKind.TheVariants.{NODE_LITERAL, NODE_PAT_ENTRY}, SyntaxKind.is_token}
use Rattle.rnix_grammar.specs.AnnotatedForest.{Note, Stray, Unwanted, Extra, DoubleBind, TooDeep, AnnotatedForest, blank, token, tokens_in, leaf_kind_as}
use Rattle.rnix_grammar.specs.{AnnotatedForest.{leaf_kind, HaveLeafKinds, Token, row_of}, Rules.{Row, done, ◌·◌, row, only, after, may_end}, Fault.Fault}
use Rattle.rnix_grammar.specs.{declared.rules.Part.TheVariants.Child, Reads.{Reads, end, leaf, missing_part, wrong, second, inner, IsWrong}}
use Rattle.{rnix_grammar.specs.Trim.{is_single_token, begins_with_node, HasSingleTokenName, AreNamesSingleTokens}, rnix_proof_lemmas.specs.Spelled.is_spelled}
use Rattle.rnix_proof_lemmas.{specs.Spelled.AreSpelled, proofs.{Basics.true_is_not_false, SpelledLemmas.{spelled_first, spelled_rest}, RowKinds.has_row}}
use Rattle.rnix_proof_lemmas.proofs.{ReachableRows.is_viable, ViableRows.{end_viable, reads_viable, reads_row, past_ends}}
use Rattle.rnix_green.specs.Equality.{same_kind, same_kind-decides}

-- a leaf over a token has a token's kind
pub remapped_is_token : (p k : SyntaxKind) → is_token k ≡ true → is_token (leaf_kind_as p k) ≡ true
remapped_is_token NODE_IDENT TOKEN_OR h = refl
remapped_is_token NODE_IDENT TOKEN_CUR_POS h = refl
remapped_is_token NODE_IDENT _ h = h
remapped_is_token NODE_CUR_POS TOKEN_IDENT h = refl
remapped_is_token NODE_CUR_POS _ h = h
remapped_is_token _ k h = h

pub spelled_token : (k : SyntaxKind) (text : List ℕ) → is_spelled k text ≡ true → is_token k ≡ true
spelled_token TOKEN_OR text h = refl
spelled_token _ text h = assumption

-- tokens of a run have their own kinds
run_leaf_kinds : (ts : List Token) → HaveLeafKinds NODE_ERROR (row_of ts)
run_leaf_kinds [] = tt
run_leaf_kinds (t ∷ ts) = (refl, run_leaf_kinds ts)

-- each leaf of a forest that is read has its token's kind, as its parent remaps it
pub reads_leaf_kinds : {p : SyntaxKind} {d n : ℕ} {q q' : Row} {b : AnnotatedForest} {us : List Token} {f : AnnotatedForest} {es : List Fault}
    → Reads p d n q q' b us f es → HaveLeafKinds p f
reads_leaf_kinds end = tt
reads_leaf_kinds (leaf x w s) = (refl, reads_leaf_kinds s)
reads_leaf_kinds (missing_part u l m w s) = reads_leaf_kinds s
reads_leaf_kinds (wrong note ts x w v s) = (run_leaf_kinds ts, reads_leaf_kinds s)
reads_leaf_kinds (second s y x) = (reads_leaf_kinds s, reads_leaf_kinds x)
reads_leaf_kinds (inner v s y x w z t) = (reads_leaf_kinds s, reads_leaf_kinds t)

-- where a row requires a child of one kind, only a child of that kind continues it
one_child : (w : Bool) (r : Row) → is_viable (only w r) ≡ true → (w ≡ true) × (only w r ≡ r)
one_child true r h = (refl, refl)
one_child false r h = absurd (true_is_not_false (sym h))

pub child_is : (kind k : SyntaxKind) (r : Row) → is_viable (after (Child kind · r) k) ≡ true → (kind ≡ k) × (after (Child kind · r) k ≡ r)
child_is kind k r h = let w = one_child (same_kind kind k) r h in ((same_kind-decides kind k).0 w.0, w.1)

-- there is no error node at such a position
pub no_wrong : {A : Type 0} (note : Note) (d : ℕ) (kind : SyntaxKind) (q r : Row) (ts vs : List Token) → same_kind kind NODE_LITERAL ≡ false
    → IsWrong note d (Child kind · q) r ts vs → is_viable r ≡ true → A
no_wrong Stray d kind q r ts vs e w l = absurd (true_is_not_false (sym l ∙ ap is_viable (sym w.3) ∙ ap (λ w. is_viable (only w q)) e))
no_wrong (Unwanted until) d kind q r ts vs e w l = absurd (cc)
no_wrong Extra d kind q r ts vs e w l = absurd (cc)
no_wrong DoubleBind d kind q r ts vs e w l = absurd w
no_wrong TooDeep d kind q r ts vs e w l = absurd (true_is_not_false (sym w.1))

-- the node of a name holds nothing but a token
one_single : (k : SyntaxKind) (t : Token) (f : AnnotatedForest) → f ≡ blank → is_single_token (token k t f) ≡ true
one_single k t f e = ap (λ x. is_single_token (token k t x)) e

name_single : {p : SyntaxKind} {d n : ℕ} {q q' : Row} {b : AnnotatedForest} {us : List Token} {f : AnnotatedForest} {es : List Fault}
    → Reads p d n q q' b us f es → is_viable q' ≡ true → q ≡ Child TOKEN_IDENT · done → is_single_token f ≡ true
name_single end w e = refl
name_single {p} (leaf {t = t} {f = f} x o h) w e =
    let k : SyntaxKind = leaf_kind p t in
    let one = child_is TOKEN_IDENT k done (ap (λ q. is_viable (after q k)) (sym e) ∙ reads_viable h w) in
    one_single k t f (past_ends h (ap (λ q. after q k) e ∙ one.1) w).no_trees
name_single (missing_part u n l o h) w e = absurd (cc)
name_single {d = d} {us = us} (wrong {r = r} {f = f} note ts x o v h) w e =
    no_wrong note d TOKEN_IDENT done r ts (tokens_in f ++ us) refl (subst (λ q. IsWrong note d q r ts (tokens_in f ++ us)) e v) (reads_viable h w)
name_single (second s y h) w e = absurd (cc)
name_single (inner {k = k} o s y x j z h) w e =
    let one = child_is TOKEN_IDENT k done (ap (λ q. is_viable (after q k)) (sym e) ∙ reads_viable h w) in
    absurd (true_is_not_false (sym (reads_row s y.0) ∙ ap has_row (sym one.0)))

-- an entry of a pattern that is read begins with its name
entry_begins : {d n : ℕ} {q q' r : Row} {b : AnnotatedForest} {us : List Token} {f : AnnotatedForest} {es : List Fault}
    → Reads NODE_PAT_ENTRY d n q q' b us f es → may_end q' ≡ true → q ≡ Child NODE_IDENT · r → AreSpelled (tokens_in f) → begins_with_node f ≡ true
entry_begins end w e a = absurd (true_is_not_false (sym w ∙ ap may_end e))
entry_begins {r = r} (leaf {t = t} x o h) w e a =
    let one = child_is NODE_IDENT t.kind r (ap (λ q. is_viable (after q t.kind)) (sym e) ∙ reads_viable h (end_viable _ w)) in
    absurd (true_is_not_false (sym (spelled_token t.kind t.text a.0) ∙ ap is_token (sym one.0)))
entry_begins (missing_part u n l o h) w e a = absurd (cc)
entry_begins {d = d} {r = s} {us = us} (wrong {r = r} {f = f} note ts x o v h) w e a =
    no_wrong note d NODE_IDENT s r ts (tokens_in f ++ us) refl (subst (λ q. IsWrong note d q r ts (tokens_in f ++ us)) e v) (reads_viable h (end_viable _ w))
entry_begins (second s y h) w e a = absurd (cc)
entry_begins (inner o s y x j z h) w e a = refl

-- so each name holds at most one token, and each entry of a pattern begins with its name
single_node : (k : SyntaxKind) {d n : ℕ} {s : Row} {us : List Token} {c : AnnotatedForest} {es : List Fault} → Reads k d n (row k) s blank us c es
    → may_end s ≡ true → AreSpelled (tokens_in c) → HasSingleTokenName k c
single_node k {d = d} {n = n} {s = s} {us = us} {c = c} {es = es} r w h = (λ e. name_single r (end_viable _ w) (ap row e), λ e. by e)
  where
    by : k ≡ NODE_PAT_ENTRY → begins_with_node c ≡ true
    by e = entry_begins (subst (λ (j : SyntaxKind). Reads j d n (row j) s blank us c es) e r) w refl h

-- a run has no names
run_names : (ts : List Token) → AreNamesSingleTokens (row_of ts)
run_names [] = tt
run_names (t ∷ ts) = run_names ts

-- the names of a forest that is read contain only their token
pub reads_single_names : {p : SyntaxKind} {d n : ℕ} {q q' : Row} {b : AnnotatedForest} {us : List Token} {f : AnnotatedForest} {es : List Fault}
    → Reads p d n q q' b us f es → AreSpelled (tokens_in f) → AreNamesSingleTokens f
reads_single_names end h = tt
reads_single_names (leaf x w s) h = reads_single_names s h.1
reads_single_names (missing_part u l m w s) h = reads_single_names s h
reads_single_names (wrong {f = f} note ts x w v s) h = (run_names ts, reads_single_names s (spelled_rest (tokens_in (row_of ts)) (tokens_in f) h))
reads_single_names (second {c = c} {f = f} s y x) h =
    (reads_single_names s (spelled_first (tokens_in c) (tokens_in f) h), reads_single_names x (spelled_rest (tokens_in c) (tokens_in f) h))
reads_single_names (inner {k = k} {c = c} {f = f} v s y x w z t) h =
    let own : AreSpelled (tokens_in c) = spelled_first (tokens_in c) (tokens_in f) h in
    (single_node k s y.0 own, reads_single_names s own, reads_single_names t (spelled_rest (tokens_in c) (tokens_in f) h))
