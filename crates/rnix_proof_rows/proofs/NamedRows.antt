-- Names are only where they may be: a node that is read as a name begins with a token that its parent's row accepts as a name.
use Rattle.std.{specs.List.list_all, proofs.Common.{◌≡◌, ℕ, Bool, true, false, List, [], ◌∷◌, ◌++◌, Option, Some, None, refl, ap, sym, ◌∙◌, subst}}
use Rattle.{std.proofs.{Common.{append_assoc, if◌then◌else◌, ◌&&◌}, lemmas.Bool.and_parts}, rnix_kinds.specs.declared.kinds.SyntaxKind.SyntaxKind}
use Rattle.rnix_kinds.specs.declared.kinds.SyntaxKind.TheVariants.{TOKEN_AT, TOKEN_IDENT, NODE_CUR_POS, NODE_IDENT, NODE_LITERAL, NODE_PATTERN, NODE_PAT_BIND}
use Rattle.{rnix_kinds.{specs.declared.kinds.SyntaxKind.TheVariants.NODE_ROOT, proofs.AllKinds.{all_kinds, every}}, rnix_green.specs.Equality.same_kind}
use Rattle.{rnix_green.specs.Equality.same_kind-decides, rnix_grammar.specs.{declared.rules.Part.TheVariants.{Child, EndOr}, Fault.Fault}}
use Rattle.rnix_grammar.specs.AnnotatedForest.{Token, Note, Stray, Unwanted, Extra, DoubleBind, TooDeep, AnnotatedForest, blank, token, branch, fault}
use Rattle.rnix_grammar.specs.{AnnotatedForest.{tokens_in, leaf_kind, leaf_kind_as, one_branch}, BehindErrors.after_error, Named.{AreNamed, begins_with_token}}
use Rattle.rnix_grammar.specs.{Named.is_name_allowed, AllowedNames.is_named_in, Reads.{Reads, ReadsRoot, end, leaf, missing_part, wrong, second, inner}}
use Rattle.rnix_grammar.specs.{Reads.IsWrong, Reports.only_token, Operands.first_tree, Rules.{Row, done, ◌·◌, row, only, after, may_end, run_at, IsExpected}}
use Rattle.{rnix_grammar.specs.Rules.is_first_expected, rnix_proof_lemmas.proofs.{Basics.{true_is_not_false, not_if, Where, where_one}, EveryKind.never}}
use Rattle.rnix_proof_lemmas.proofs.{AfterErrors.wrong_goes, ReachableRows.{IsKnown, is_viable, every_known, known_row, known_after, known_missing, known_past}}
use Rattle.rnix_proof_lemmas.proofs.{ReachableRows.known_wrong, ViableRows.{end_viable, reads_viable}}
use Rattle.rnix_proof_rows.proofs.{RowsWithoutAttrpath.{missing_no_attrpath, HasNoNode, no_attrpath_row}, ReadsLeafKinds.{child_is, no_wrong}}
use Rattle.rnix_proof_rows.proofs.FirstItems.{begins_pattern, MayBegin, Names, is_first, Fronts, Known, node_known}

-- the first of some items passes a test
abbrev Heads : (SyntaxKind → Bool) → List Token → Type 0
Heads test [] = ⊥
Heads test (t ∷ ts) = test t.kind ≡ true

heads_on : (test : SyntaxKind → Bool) (ts us : List Token) → Heads test ts → Heads test (ts ++ us)
heads_on test [] us h = absurd h
heads_on test (t ∷ ts) us h = h

-- the child of a name is a name's leaf
abbrev is_name : SyntaxKind → Bool
is_name kind = same_kind TOKEN_IDENT (leaf_kind_as NODE_IDENT kind)

name_heads : {p : SyntaxKind} {d n : ℕ} {q q' : Row} {b : AnnotatedForest} {us : List Token} {f : AnnotatedForest} {es : List Fault}
    → Reads p d n q q' b us f es → p ≡ NODE_IDENT → may_end q' ≡ true → q ≡ Child TOKEN_IDENT · done → Heads is_name (tokens_in f)
name_heads end p w e = absurd (true_is_not_false (sym w ∙ ap may_end e))
name_heads {p} (leaf {t = t} x o h) i w e =
    let one = child_is TOKEN_IDENT (leaf_kind p t) done (ap (λ q. is_viable (after q (leaf_kind p t))) (sym e) ∙ reads_viable h (end_viable _ w)) in
    (same_kind-decides TOKEN_IDENT (leaf_kind_as NODE_IDENT t.kind)).1 (one.0 ∙ ap (λ p. leaf_kind_as p t.kind) i)
name_heads (missing_part u n l o h) i w e = absurd (cc)
name_heads {d = d} {us = us} (wrong {r = r} {f = f} note ts x o v h) i w e =
    no_wrong note d TOKEN_IDENT done r ts (tokens_in f ++ us) refl (subst (λ q. IsWrong note d q r ts (tokens_in f ++ us)) e v)
    (reads_viable h (end_viable _ w))
name_heads (second s y h) i w e = absurd (cc)
name_heads (inner {k = k} o s y x j z h) i w e =
    let one = child_is TOKEN_IDENT k done (ap (λ q. is_viable (after q k)) (sym e) ∙ reads_viable h (end_viable _ w)) in
    absurd (true_is_not_false (sym (reads_viable s (end_viable _ y.0)) ∙ ap (λ k. is_viable (row k)) (sym one.0)))

-- a bound name begins with `@` or with a name
abbrev Binds : AnnotatedForest → Type 0
Binds (token k t f) = is_viable (after (row NODE_PAT_BIND) t.kind) ≡ true
Binds (branch k c f) = Heads is_name (tokens_in c)
Binds f = ⊥

binds_wrong : {A : Type 0} (note : Note) (d : ℕ) (r : Row) (ts us : List Token) → IsWrong note d (row NODE_PAT_BIND) r ts us → is_viable r ≡ true → A
binds_wrong Stray d r ts us w l = absurd (true_is_not_false (sym l ∙ ap is_viable (sym w.3)))
binds_wrong (Unwanted until) d r ts us w l = absurd (cc)
binds_wrong Extra d r ts us w l = absurd (cc)
binds_wrong DoubleBind d r ts us w l = absurd w
binds_wrong TooDeep d r ts us w l = absurd (true_is_not_false (sym w.1))

binds_node : (k : SyntaxKind) {d n : ℕ} {s : Row} {b : AnnotatedForest} {us : List Token} {c : AnnotatedForest} {es : List Fault}
    → Reads k d n (row k) s b us c es
    → may_end s ≡ true → is_viable (after (row NODE_PAT_BIND) k) ≡ true → Heads is_name (tokens_in c)
binds_node NODE_IDENT s w l = name_heads s refl w refl
binds_node TOKEN_AT s w l = absurd (true_is_not_false (sym (reads_viable s (end_viable _ w))))
binds_node _ s w l = absurd (true_is_not_false (sym l))

binds : {p : SyntaxKind} {d n : ℕ} {q q' : Row} {b : AnnotatedForest} {us : List Token} {f : AnnotatedForest} {es : List Fault}
    → Reads p d n q q' b us f es → p ≡ NODE_PAT_BIND → may_end q' ≡ true → q ≡ row NODE_PAT_BIND → Binds f
binds end i w e = absurd (true_is_not_false (sym w ∙ ap may_end e))
binds {q = q} (leaf {t = t} x o h) i w e =
    sym (ap (λ q. is_viable (after q t.kind)) e) ∙ sym (ap (λ p. is_viable (after q (leaf_kind p t))) i) ∙ reads_viable h (end_viable _ w)
binds (missing_part u n l o h) i w e = absurd (cc)
binds {d = d} {us = us} (wrong {r = r} {f = f} note ts x o v h) i w e =
    binds_wrong note d r ts (tokens_in f ++ us) (subst (λ q. IsWrong note d q r ts (tokens_in f ++ us)) e v) (reads_viable h (end_viable _ w))
binds (second s y h) i w e = absurd (cc)
binds (inner {k = k} o s y x j z h) i w e = binds_node k s y.0 (ap (λ q. is_viable (after q k)) (sym e) ∙ reads_viable h (end_viable _ w))

-- a bound name after its pattern begins with `@`
bound_behind : (r : Row) (n : ℕ) (c : AnnotatedForest) (vs : List Token) → Binds c → IsExpected (EndOr NODE_PAT_BIND · r) n (tokens_in c ++ vs) true
    → begins_with_token c ≡ true
bound_behind r n (token k t f) vs b x = refl
bound_behind r n (branch k c f) vs b x =
    let ts : List Token = tokens_in c ++ tokens_in f in
    absurd (apart (ts ++ vs) (heads_on is_name ts vs (heads_on is_name (tokens_in c) (tokens_in f) b)) x)
  where
    apart : (ts : List Token) → Heads is_name ts → IsExpected (EndOr NODE_PAT_BIND · r) n ts true → ⊥
    apart [] h x = h
    apart (t ∷ ts) h x = never is_name (same_kind TOKEN_AT) refl t.kind h x
bound_behind r n _ vs b x = absurd b

-- a bound name before its pattern begins with the name
bound_before : (c : AnnotatedForest) (vs : List Token) → Binds c → MayBegin NODE_PATTERN (tokens_in c ++ vs)
    → (if begins_with_token c then false else true) ≡ true
bound_before (token k t f) vs b h = absurd (never begins_pattern (λ j. is_viable (after (row NODE_PAT_BIND) j)) refl t.kind h b)
bound_before _ vs b h = refl

-- the row may end or go on with a bound name; before its pattern, a bound name is the first child
abbrev pub is_end_or : Row → Bool
is_end_or (EndOr kind · r) = true
is_end_or r = false

abbrev binds_first : SyntaxKind → Row → Bool
binds_first p q = if is_viable (after q NODE_PAT_BIND) then (if is_end_or q then true else is_first q && same_kind NODE_PATTERN p) else true

first_bound : {p : SyntaxKind} (q : Row) (c f : AnnotatedForest) (ts : List Token) → IsKnown p q → is_viable (after q NODE_PAT_BIND) ≡ true
    → is_end_or q ≡ false
    → Fronts p q (branch NODE_PAT_BIND c f) ts → MayBegin NODE_PATTERN ts
first_bound {p} q c f ts n l e h =
    let both = and_parts (is_first q) (same_kind NODE_PATTERN p) (sym (ap (λ w. if w then true else is_first q && same_kind NODE_PATTERN p) e)
    ∙ sym (ap (λ w. if w then (if is_end_or q then true else is_first q && same_kind NODE_PATTERN p) else true) l)
    ∙ every_known binds_first (λ p. refl) refl p q n) in
    subst (λ p. MayBegin (first_tree (one_branch p (branch NODE_PAT_BIND c f))) ts) (sym ((same_kind-decides NODE_PATTERN p).0 both.1))
    (where_one (is_first q) both.0 h)

bind_allowed : {p : SyntaxKind} (q : Row) (c f : AnnotatedForest) (n : ℕ) (vs : List Token) → IsKnown p q → is_viable (after q NODE_PAT_BIND) ≡ true → Binds c
    → IsExpected q n (tokens_in c ++ vs) (is_first_expected q NODE_PAT_BIND c) → Fronts p q (branch NODE_PAT_BIND c f) (tokens_in c ++ vs)
    → is_name_allowed q NODE_PAT_BIND c ≡ true
bind_allowed (EndOr kind · r) c f n vs i l b x h =
    let is : kind ≡ NODE_PAT_BIND = (same_kind-decides kind NODE_PAT_BIND).0 (only_viable (same_kind kind NODE_PAT_BIND) r l) in
    bound_behind r n c vs b (subst (λ k. IsExpected (EndOr k · r) n (tokens_in c ++ vs) true) is x)
  where
    only_viable : (w : Bool) (r : Row) → is_viable (only w r) ≡ true → w ≡ true
    only_viable true r l = refl
    only_viable false r l = l
bind_allowed q c f n vs i l b x h = bound_before c vs b (first_bound q c f (tokens_in c ++ vs) i l refl h)

-- a node is a name, `__curPos` or a bound name only where it may be
node_allowed : {p : SyntaxKind} (q : Row) (k : SyntaxKind) (c f : AnnotatedForest) (n : ℕ) (vs : List Token) → IsKnown p q → is_viable (after q k) ≡ true
    → IsExpected q n (tokens_in c ++ vs) (is_first_expected q k c) → Names q k (tokens_in c ++ vs) → Fronts p q (branch k c f) (tokens_in c ++ vs)
    → (k ≡ NODE_PAT_BIND → Binds c) → is_name_allowed q k c ≡ true
node_allowed q NODE_IDENT (token j t g) f n vs i l x m h b = m
node_allowed q NODE_IDENT _ f n vs i l x m h b = refl
node_allowed q NODE_CUR_POS (token j t g) f n vs i l x m h b = m
node_allowed q NODE_CUR_POS _ f n vs i l x m h b = refl
node_allowed q NODE_PAT_BIND c f n vs i l x m h b = bind_allowed q c f n vs i l (b refl) x h
node_allowed q k c f n vs i l x m h b = elim (only_token c) as (λ w. is_named_in q k w ≡ true) [ None ↦ refl | Some t ↦ refl ]

-- a forest without nodes has no names
none_named : (q : Row) (f : AnnotatedForest) → HasNoNode f → AreNamed q f
none_named q blank h = tt
none_named q (token k t f) h = none_named (after q k) f h
none_named q (branch k c f) h = absurd h
none_named q (fault note c f) h = none_named (after_error q note) f h

-- after its first tree, no row begins with a node that its parent always has
pub where_none : (P : Type 0) (w : Bool) → w ≡ false → Where w P
where_none P true e = absurd (true_is_not_false e)
where_none P false e = tt

later_fronts : {p : SyntaxKind} (q : Row) (k : SyntaxKind) (f : AnnotatedForest) (ts : List Token) → IsKnown p q → Fronts p (after q k) f ts
later_fronts {p} q k f ts i = where_none _ (is_first (after q k)) (not_if (is_first (after q k)) (every (λ k. if is_first (after q k) then false else true)
    (every_known (λ p q. list_all (λ k. if is_first (after q k) then false else true) all_kinds) (λ p. refl) refl p q i) k))

-- nor does it after an error node
abbrev runs_later : Option (List SyntaxKind × Row) → Bool
runs_later None = true
runs_later (Some w) = if is_first w.1 then false else true

wrong_fronts : {p : SyntaxKind} (note : Note) (d : ℕ) (q r : Row) (ts vs us : List Token) (f : AnnotatedForest) → IsKnown p q → IsWrong note d q r ts vs
    → Fronts p r f us
wrong_fronts {p} Stray d q r ts vs us f i w = subst (λ z. Fronts p z f us) w.3 (later_fronts q NODE_LITERAL f us i)
wrong_fronts {p} (Unwanted until) d q r ts vs us f i w = where_none _ (is_first r)
    (not_if (is_first r) (sym (ap runs_later w.2) ∙ every_known (λ p q. runs_later (run_at q)) (λ p. refl) refl p q i))
wrong_fronts {p} Extra d q r ts vs us f i w = subst (λ z. Fronts p z f us) (sym (w.3 ∙ w.2)) tt
wrong_fronts DoubleBind d q r ts vs us f i w = absurd w
wrong_fronts {p} TooDeep d q r ts vs us f i w = subst (λ z. Fronts p z f us) w.3 (later_fronts q NODE_LITERAL f us i)

-- each name of a forest that is read is where it may be
named_row : {p : SyntaxKind} {d n : ℕ} {q q' : Row} {b : AnnotatedForest} {us : List Token} {f : AnnotatedForest} {es : List Fault} → Reads p d n q q' b us f es
    → IsKnown p q → is_viable q' ≡ true → Fronts p q f (tokens_in f ++ us) → AreNamed q f
named_row end i l h = tt
named_row {p} {q = q} {us = us} (leaf {t = t} {f = f} x o s) i l h =
    named_row s (known_after (leaf_kind p t) i) l (later_fronts q (leaf_kind p t) f (tokens_in f ++ us) i)
named_row {q = q} (missing_part {f = f} u t m o s) i l h = none_named q f (no_attrpath_row s (known_missing m i) l (missing_no_attrpath i m) u t)
named_row {d = d} {q = q} {us = us} (wrong {r = r} {f = f} note ts x o v s) i l h =
    subst (λ z. AreNamed z f) (sym (wrong_goes note d q r ts (tokens_in f ++ us) v))
    (named_row s (known_wrong note _ _ _ v i) l (wrong_fronts note d q r ts (tokens_in f ++ us) (tokens_in f ++ us) f i v))
named_row (second s y x) i l h = named_row x (known_past i) l tt
named_row {n = n} {q = q} {us = us} (inner {k = k} {c = c} {f = f} o s y x j z t) i l h =
    let lives : is_viable (after q k) ≡ true = reads_viable t l in
    let vs : List Token = tokens_in f ++ us in
    let fronts = subst (Fronts _ q (branch k c f)) (append_assoc (tokens_in c) (tokens_in f) us) h in
    let known : Known q k c (tokens_in c ++ vs) = node_known q k c f n vs i lives x z fronts in (
      node_allowed q k c f n vs i lives x known.0 fronts (λ e. binds s e y.0 (ap row e)),
      named_row s (known_row k) (end_viable _ y.0) known.1,
      named_row t (known_after k i) l (later_fronts q k f vs i),
    )

-- each name of a whole text is where it may be
pub are_named : {f : AnnotatedForest} {es : List Fault} → ReadsRoot f es → AreNamed (row NODE_ROOT) f
are_named s = named_row s (known_row NODE_ROOT) refl tt
