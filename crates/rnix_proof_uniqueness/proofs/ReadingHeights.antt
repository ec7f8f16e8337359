-- The height of a reading, and how a reading continues at a child that its node always has.
use Rattle.std.proofs.Common.{◌≡◌, ℕ, suc, ◌+◌, ◌<◌, Bool, true, false, List, [], ◌∷◌, ◌++◌, Some, None, refl, ap, sym, ◌∙◌, subst, arith, ◌⊎◌, inl, inr, ◌||◌}
use Rattle.{std.{proofs.{Common.{◌&&◌, if◌then◌else◌}, lemmas.Bool.and_parts}, specs.List.list_all}, rnix_kinds.proofs.AllKinds.{all_kinds, implied}}
use Rattle.{rnix_kinds.specs.declared.kinds.SyntaxKind.{SyntaxKind, TheVariants.{NODE_LITERAL, TOKEN_IDENT, NODE_IDENT}}, rnix_green.specs.Equality.same_kind}
use Rattle.rnix_grammar.specs.{declared.{position.Position.Position, rules.Part.TheVariants.{Argument, Atom, Binary, Child, First, Suffix}}, Fault.Fault}
use Rattle.rnix_grammar.specs.{Tables.wanted_kinds, AnnotatedForest.{Token, Note, Stray, Unwanted, Extra, DoubleBind, TooDeep, AnnotatedForest, blank, token}}
use Rattle.rnix_grammar.specs.AnnotatedForest.{branch, fault, ◌⊕◌, one_token, one_branch, one_fault, row_of, tokens_in, leaf_kind, head_kind, end_from}
use Rattle.rnix_grammar.specs.{Reports.{report, repeats}, NodeClasses.fits, FirstKinds.IsOperandOf, Rules.{Row, done, ◌·◌, ◌or◌, after, counts, level_at, may_end}}
use Rattle.rnix_grammar.specs.{Rules.{missing, run_at, is_first_expected, row as row_of_kind, IsExpected, IsFollowed}, Reads.{IsOver, IsWrong, Reads, deeper}}
use Rattle.{rnix_grammar.specs.Reads.{end, leaf, inner, missing_part, wrong, second}, rnix_proof_lemmas.proofs.AnnotatedForestLemmas.tokens_in-row_of}
use Rattle.rnix_proof_lemmas.proofs.{Basics.{true_is_not_false, not_if}, RowParts.is_front, RestAt.rest_at, ViableRows.{past_ends, end_viable, reads_viable}}
use Rattle.rnix_proof_lemmas.proofs.{ReachableRows.is_viable, TokenEnds.end_behind, EveryKind.{only, only_both}}
use Rattle.rnix_proof_uniqueness.proofs.{ViableReadings.no_some, OneAction.{is_at, begins_with_item, names_only, is_name, is_first, may_begin, or_true}}
use Rattle.rnix_proof_uniqueness.proofs.StepReads.{ReadsTree, ReadsTo}

-- the height of a reading
abbrev pub height : {p : SyntaxKind} {d n : ℕ} {q s : Row} {b : AnnotatedForest} {us : List Token} {f : AnnotatedForest} {es : List Fault}
    → Reads p d n q s b us f es → ℕ
height end = 0
height (leaf x w r) = suc (height r)
height (inner i c o x w j r) = suc (height c + height r)
height (missing_part u f m i r) = suc (height r)
height (wrong note ts x w i r) = suc (height r)
height (second c o r) = suc (height c + height r)

-- a reading that is lower than m
pub record IsLower (m : ℕ) (p : SyntaxKind) (d n : ℕ) (q s : Row) (b : AnnotatedForest) (us : List Token) (f : AnnotatedForest) (es : List Fault) : Type 0 where
  pub reads : Reads p d n q s b us f es
  pub short : height reads < m

-- the steps follow each reading of a forest from a position that is lower than `m`
abbrev pub AllRows : ℕ → Type 0
AllRows m =
    (k : SyntaxKind) (d n : ℕ) (x : Position) (s : Row) (b : AnnotatedForest) (us : List Token) (f : AnnotatedForest) (es : List Fault) → is_at k x ≡ true
    → IsLower m k d n (rest_at x) s b us f es → is_viable s ≡ true → ReadsTo k d n x s b us f es

-- a reading lower than m that ends where its row may end
pub record Complete (m : ℕ) (p : SyntaxKind) (d n : ℕ) (q : Row) (b : AnnotatedForest) (us : List Token) (f : AnnotatedForest) (es : List Fault) : Type 0 where
  pub last : Row
  pub part : IsLower m p d n q last b us f es
  pub over : IsOver last (end_from n (tokens_in f)) us

-- the steps follow each reading of an expression that is lower than `m`
abbrev pub Trees : ℕ → Type 0
Trees m =
    (k : SyntaxKind) (d n : ℕ) (us : List Token) (c : AnnotatedForest) (ds : List Fault) → Complete m k d n (row_of_kind k) blank us c ds → fits 0 k ≡ true
    → ReadsTree d n (tokens_in c) (one_branch k c) us ds

-- how a reading continues at a child that its node always has
pub data Front (m : ℕ) (p : SyntaxKind) (d n : ℕ) (q : Row) (b : AnnotatedForest) (us : List Token) : AnnotatedForest → List Fault → Type 0 where
  by_leaf : {k : SyntaxKind} {t : Token} {f : AnnotatedForest} {es : List Fault}
      → k ≡ leaf_kind p t → IsFollowed q b (Some k) → is_viable (after q k) ≡ true
      → Complete m p d t.end (after q k) (b ⊕ one_token k t) us f es
      → Front m p d n q b us (token k t f) es
  by_stray : {t : Token} {f : AnnotatedForest} {es : List Fault}
      → IsExpected q n (t ∷ (tokens_in f ++ us)) false → IsFollowed q b (Some t.kind)
      → IsOperandOf (level_at q blank) (one_fault Stray (row_of (t ∷ []))) (tokens_in f ++ us) → is_viable (after q NODE_LITERAL) ≡ true
      → Complete m p d t.end (after q NODE_LITERAL) (b ⊕ one_fault Stray (row_of (t ∷ []))) us f es
      → Front m p d n q b us (fault Stray (row_of (t ∷ [])) f) (report Stray (t ∷ []) ∷ es)
  by_node : {k : SyntaxKind} {c f : AnnotatedForest} {ds es : List Fault} → Complete m k (deeper q d) n (row_of_kind k) blank (tokens_in f ++ us) c ds
      → IsExpected q n (tokens_in c ++ (tokens_in f ++ us)) (is_first_expected q k c) → IsFollowed q b (head_kind (tokens_in c ++ (tokens_in f ++ us)))
      → IsOperandOf (level_at q (one_branch k c)) (one_branch k c) (tokens_in f ++ us) → is_viable (after q k) ≡ true
      → Complete m p d (end_from n (tokens_in c)) (after q k) (b ⊕ one_branch k c) us f es
      → Front m p d n q b us (branch k c f) ((ds ++ repeats k b c) ++ es)

-- the steps read each expression of the kind whose reading continues in one of these ways
abbrev pub KindReads : ℕ → SyntaxKind → Type 0
KindReads m k =
    (d n : ℕ) (us : List Token) (c : AnnotatedForest) (es : List Fault) → Front m k d n (row_of_kind k) blank us c es
    → ReadsTree d n (tokens_in c) (one_branch k c) us es

-- the node always has the next child
abbrev pub is_firm : Row → Bool
is_firm (Suffix kind · r) = true
is_firm (Binary · r) = true
is_firm (Argument · r) = true
is_firm r = is_front r

-- so the row may not end here, no operand is counted, no part is missing, and no run begins
firm : (r : Row) → is_firm r ≡ true → (may_end r ≡ false) × (counts r ≡ false) × (missing r ≡ None) × (run_at r ≡ None)
firm (Child kind · r) h = (refl, refl, refl, refl)
firm (Atom · r) h = (refl, refl, refl, refl)
firm (First m · r) h = (refl, refl, refl, refl)
firm (Suffix kind · r) h = (refl, refl, refl, refl)
firm (Binary · r) h = (refl, refl, refl, refl)
firm (Argument · r) h = (refl, refl, refl, refl)
firm (r or s) h = (refl, refl, refl, refl)
firm _ h = absurd (cc)

-- a complete reading is also one at an equal position, after equal trees
pub complete_to : {m n : ℕ} {p : SyntaxKind} {d : ℕ} {q r : Row} {b c : AnnotatedForest} {us : List Token} {f : AnnotatedForest} {es : List Fault}
    → r ≡ q → c ≡ b → Complete m p d n r c us f es → Complete m p d n q b us f es
complete_to {m} {n} {p} {d} {q} {b = b} {c} {us} {f} {es} u v h = subst (λ b. Complete m p d n q b us f es) v (subst (λ q. Complete m p d n q c us f es) u h)

-- a row with a complete reading is viable, and after its end nothing is read
pub complete_viable : {m n : ℕ} {p : SyntaxKind} {d : ℕ} {q : Row} {b : AnnotatedForest} {us : List Token} {f : AnnotatedForest} {es : List Fault}
    → Complete m p d n q b us f es
    → is_viable q ≡ true
complete_viable w = reads_viable w.part.reads (end_viable w.last w.over.0)

pub complete_done : {m n : ℕ} {p : SyntaxKind} {d : ℕ} {q : Row} {b : AnnotatedForest} {us : List Token} {f : AnnotatedForest} {es : List Fault}
    → Complete m p d n q b us f es
    → q ≡ done → (f ≡ blank) × (es ≡ [])
complete_done w e = let ended = past_ends w.part.reads e (end_viable w.last w.over.0) in (ended.no_trees, ended.faults)

-- less than, without both successors
pub less : (a m : ℕ) → suc a < suc m → a < m
less a m h = omega (arith, h)

-- the first of two numbers is less than their sum's bound
pub less_left : (a b m : ℕ) → suc (a + b) < suc m → a < m
less_left a b m h = omega (arith, h)

-- so is the second
pub less_right : (a b m : ℕ) → suc (a + b) < suc m → b < m
less_right a b m h = omega (arith, h)

-- an error node there is a stray item, and the reading continues after it
front_wrong : (m : ℕ) (p : SyntaxKind) (d n : ℕ) (q r : Row) (b : AnnotatedForest) (us : List Token) (f : AnnotatedForest) (es : List Fault) (note : Note)
    (ts : List Token)
    → IsExpected q n (ts ++ (tokens_in f ++ us)) false → IsFollowed q b (head_kind ts) → IsWrong note d q r ts (tokens_in f ++ us)
    → Complete m p d (end_from n ts) r (b ⊕ one_fault note (row_of ts)) us f es → is_firm q ≡ true
    → Front m p d n q b us (fault note (row_of ts) f) (report note ts ∷ es)
front_wrong m p d n q r b us f es Stray [] o w x h a = absurd (cc x.0)
front_wrong m p d n q r b us f es Stray (t ∷ []) o w x h a = by_stray o w x.2 (ap is_viable x.3 ∙ complete_viable h) (complete_to (sym x.3) refl h)
front_wrong m p d n q r b us f es Stray (t ∷ (u ∷ ts)) o w x h a = absurd (omega (arith, x.0))
front_wrong m p d n q r b us f es (Unwanted until) ts o w x h a = no_some (wanted_kinds until, r) (sym (firm q a).3 ∙ x.2)
front_wrong m p d n q r b us f es Extra ts o w x h a = absurd (true_is_not_false (sym a ∙ ap is_firm x.2))
front_wrong m p d n q r b us f es DoubleBind ts o w x h a = absurd x
front_wrong m p d n q r b us f es TooDeep ts o w x h a = absurd (true_is_not_false (sym x.1 ∙ (firm q a).1))

-- a complete reading at such a child continues in one of these ways
pub front : (m : ℕ) {p : SyntaxKind} {d n : ℕ} {q s : Row} {b : AnnotatedForest} {us : List Token} {f : AnnotatedForest} {es : List Fault}
    (r : Reads p d n q s b us f es)
    → height r < suc m → is_firm q ≡ true → IsOver s (end_from n (tokens_in f)) us → Front m p d n q b us f es
front m {q = q} end h a o = absurd (true_is_not_false (sym o.0 ∙ (firm q a).0))
front m {s = s} (leaf x w r) h a o =
    by_leaf refl w (reads_viable r (end_viable s o.0)) (record { last = s; part = record { reads = r; short = less (height r) m h }; over = o })
front m {n = n} {s = s} {us = us} (inner {s = z} {c = c} {f = f} i r v x w j t) h a o =
    by_node (record { last = z; part = record { reads = r; short = less_left (height r) (height t) m h }; over = v }) x w j (reads_viable t (end_viable s o.0))
    (record {
      last = s;
      part = record { reads = t; short = less_right (height r) (height t) m h };
      over = subst (λ e. IsOver s e us) (end_behind n (tokens_in c) (tokens_in f)) o;
    })
front m {q = q} (missing_part {r = r} {e = e} u f x i z) h a o = no_some (e, r) (sym (firm q a).2 ∙ x)
front m {p = p} {d} {n} {q} {s} {b} {us} (wrong {r = r} {f = f} {es = es} note ts x w i z) h a o =
    front_wrong m p d n q r b us f es note ts x w i (record {
      last = s;
      part = record { reads = z; short = less (height z) m h };
      over = subst (λ e. IsOver s e us) (ap (λ v. end_from n (v ++ tokens_in f)) (tokens_in-row_of ts) ∙ end_behind n ts (tokens_in f)) o;
    }) a
front m (second c v r) h a o = absurd (true_is_not_false (sym a))

-- so does a reading with a bound on its height
pub front_of : {m : ℕ} {p : SyntaxKind} {d n : ℕ} {q r : Row} {b : AnnotatedForest} {us : List Token} {f : AnnotatedForest} {es : List Fault}
    → q ≡ r → Complete m p d n q b us f es → is_firm r ≡ true → Front m p d n r b us f es
front_of {m} {p} {d} {n} {r = r} {b} {us} {f} {es} e h a = by (complete_to e refl h)
  where
    by : Complete m p d n r b us f es → Front m p d n r b us f es
    by v = front m v.part.reads (omega (arith, v.part.short)) a v.over

-- no node may come next in the row
abbrev pub has_no_node_next : Row → Bool
has_no_node_next q = list_all (λ j. if is_viable (after q j) then (if is_viable (row_of_kind j) then false else true) else true) all_kinds

-- then the next child's kind has no rows
no_node_row : (q : Row) → has_no_node_next q ≡ true → (j : SyntaxKind) → is_viable (after q j) ≡ true → is_viable (row_of_kind j) ≡ false
no_node_row q h j l = not_if (is_viable (row_of_kind j)) (implied (λ i. is_viable (after q i)) (λ i. if is_viable (row_of_kind i) then false else true) h j l)

-- an item comes next in the row, and then the rest of the row
pub record Item (m : ℕ) (k : SyntaxKind) (d : ℕ) (q : Row) (b : AnnotatedForest) (us : List Token) (f : AnnotatedForest) (es : List Fault) : Type 0 where
  pub item : Token
  pub more : AnnotatedForest
  pub is : f ≡ token (leaf_kind k item) item more
  pub followed : IsFollowed q b (Some (leaf_kind k item))
  pub alive : is_viable (after q (leaf_kind k item)) ≡ true
  pub rest : Complete m k d item.end (after q (leaf_kind k item)) (b ⊕ one_token (leaf_kind k item) item) us more es

leaf_item : {m : ℕ} {k i : SyntaxKind} {d : ℕ} {q : Row} {b : AnnotatedForest} {us : List Token} {t : Token} {f : AnnotatedForest} {es : List Fault}
    → i ≡ leaf_kind k t
    → IsFollowed q b (Some i) → is_viable (after q i) ≡ true → Complete m k d t.end (after q i) (b ⊕ one_token i t) us f es → Item m k d q b us (token i t f) es
leaf_item {m} {k} {i} {d} {q} {b} {us} {t} {f} {es} e =
    subst (λ i. IsFollowed q b (Some i) → is_viable (after q i) ≡ true → Complete m k d t.end (after q i) (b ⊕ one_token i t) us f es
    → Item m k d q b us (token i t f) es) (sym e)
    (λ y l r. record { item = t; more = f; is = refl; followed = y; alive = l; rest = r })

-- where no node may come next, an item does
pub item_next : {m : ℕ} {k : SyntaxKind} {d n : ℕ} {q : Row} {b : AnnotatedForest} {us : List Token} {f : AnnotatedForest} {es : List Fault}
    → has_no_node_next q ≡ true
    → Front m k d n q b us f es → Item m k d q b us f es
item_next h (by_leaf e y l r) = leaf_item e y l r
item_next {q = q} h (by_stray o y z l r) = absurd (true_is_not_false (no_node_row q h NODE_LITERAL l))
item_next {q = q} h (by_node {k = j} r y v i l r') = absurd (true_is_not_false (sym (complete_viable r) ∙ no_node_row q h j l))

-- if the row ends after the next item, nothing follows it, and there is no error
pub item_alone : {m : ℕ} {k : SyntaxKind} {d : ℕ} {q : Row} {b : AnnotatedForest} {us : List Token} {f : AnnotatedForest} {es : List Fault}
    (w : Item m k d q b us f es)
    → after q (leaf_kind k w.item) ≡ done → (f ≡ one_token (leaf_kind k w.item) w.item) × (es ≡ [])
item_alone {k = k} w e = let v = complete_done w.rest e in (w.is ∙ ap (λ z. token (leaf_kind k w.item) w.item z) v.0, v.1)

-- a name comes next in the row, and then the rest of the row
pub record Name (m : ℕ) (k : SyntaxKind) (d : ℕ) (q : Row) (b : AnnotatedForest) (us : List Token) (f : AnnotatedForest) (es : List Fault) : Type 0 where
  pub item : Token
  pub more : AnnotatedForest
  pub is : f ≡ branch NODE_IDENT (one_token (leaf_kind NODE_IDENT item) item) more
  pub kind : leaf_kind NODE_IDENT item ≡ TOKEN_IDENT
  pub alive : is_viable (after q NODE_IDENT) ≡ true
  pub rest : Complete m k d item.end (after q NODE_IDENT) (b ⊕ one_branch NODE_IDENT (one_token (leaf_kind NODE_IDENT item) item)) us more es

-- a name's child is a TOKEN_IDENT
name_first : (i : SyntaxKind) → is_viable (after (row_of_kind NODE_IDENT) i) ≡ true → i ≡ TOKEN_IDENT
name_first i l = only (λ j. is_viable (after (row_of_kind NODE_IDENT) j)) TOKEN_IDENT refl i l

-- the children of a name are one item
pub name_item : {m : ℕ} {d n : ℕ} {us : List Token} {c : AnnotatedForest} {ds : List Fault} → Complete m NODE_IDENT d n (row_of_kind NODE_IDENT) blank us c ds
    → (t : Token) × (c ≡ one_token (leaf_kind NODE_IDENT t) t) × (leaf_kind NODE_IDENT t ≡ TOKEN_IDENT) × (ds ≡ [])
name_item r =
    let v = item_next refl (front_of refl r refl) in
    let e = name_first (leaf_kind NODE_IDENT v.item) v.alive in
    let u = item_alone v (ap (after (row_of_kind NODE_IDENT)) e) in
    (v.item, u.0, e, u.1)

-- where only a name may come next among nodes, a node is a name
name_next : {m : ℕ} {k : SyntaxKind} {d e n : ℕ} {q : Row} {b : AnnotatedForest} {us vs : List Token} {c f : AnnotatedForest} {ds es : List Fault}
    (j : SyntaxKind) → j ≡ NODE_IDENT
    → is_viable (after q j) ≡ true → Complete m j e n (row_of_kind j) blank vs c ds
    → Complete m k d (end_from n (tokens_in c)) (after q j) (b ⊕ one_branch j c) us f es
    → Name m k d q b us (branch j c f) ((ds ++ repeats j b c) ++ es)
name_next {m} {k} {d} {e} {n} {q} {b} {us} {vs} {c} {f} {ds} {es} j h =
    subst (λ (i : SyntaxKind). is_viable (after q i) ≡ true → Complete m i e n (row_of_kind i) blank vs c ds
    → Complete m k d (end_from n (tokens_in c)) (after q i) (b ⊕ one_branch i c) us f es
    → Name m k d q b us (branch i c f) ((ds ++ repeats i b c) ++ es)) (sym h) by
  where
    by : is_viable (after q NODE_IDENT) ≡ true → Complete m NODE_IDENT e n (row_of_kind NODE_IDENT) blank vs c ds
        → Complete m k d (end_from n (tokens_in c)) (after q NODE_IDENT) (b ⊕ one_branch NODE_IDENT c) us f es
        → Name m k d q b us (branch NODE_IDENT c f) ((ds ++ []) ++ es)
    by l r r' =
        let v = name_item r in
        record {
          item = v.0;
          more = f;
          is = ap (λ g. branch NODE_IDENT g f) v.1;
          kind = v.2;
          alive = l;
          rest =
              subst (λ (fs : List Fault). Complete m k d v.0.end (after q NODE_IDENT)
              (b ⊕ one_branch NODE_IDENT (one_token (leaf_kind NODE_IDENT v.0) v.0)) us f fs)
              (ap (λ fs. (fs ++ []) ++ es) (sym v.3)) (subst (λ (g : AnnotatedForest). Complete m k d (end_from n (tokens_in g)) (after q NODE_IDENT)
              (b ⊕ one_branch NODE_IDENT g) us f es) v.1 r');
        }

-- there an item or a name comes next
pub item_or_name : {m : ℕ} {k : SyntaxKind} {d n : ℕ} {q : Row} {b : AnnotatedForest} {us : List Token} {f : AnnotatedForest} {es : List Fault}
    → names_only q ≡ true
    → Front m k d n q b us f es → Item m k d q b us f es ⊎ Name m k d q b us f es
item_or_name {q = q} h r = by r
  where
    name : (j : SyntaxKind) → is_viable (after q j) ≡ true → is_viable (row_of_kind j) ≡ true → j ≡ NODE_IDENT
    name = only_both (λ j. is_viable (after q j)) (λ j. is_viable (row_of_kind j)) NODE_IDENT h

    literal : NODE_LITERAL ≡ NODE_IDENT → ⊥
    literal h = cc

    by : {m : ℕ} {k : SyntaxKind} {d n : ℕ} {b : AnnotatedForest} {us : List Token} {f : AnnotatedForest} {es : List Fault} → Front m k d n q b us f es
        → Item m k d q b us f es ⊎ Name m k d q b us f es
    by (by_leaf e y l r) = inl (leaf_item e y l r)
    by (by_stray o y z l r) = absurd (literal (name NODE_LITERAL l refl))
    by (by_node {k = j} r y v i l r') = inr (name_next j (name j l (complete_viable r)) l r r')

-- so the next item may begin the node
pub begins_so : {m : ℕ} {k : SyntaxKind} {d n : ℕ} {us : List Token} {c : AnnotatedForest} {es : List Fault} → Complete m k d n (row_of_kind k) blank us c es
    → may_begin k (head_kind (tokens_in c ++ us)) ≡ true
begins_so {m} {k} {d} {n} {us} {c} {es} r = by (begins_with_item k) refl
  where
    first : Item m k d (row_of_kind k) blank us c es ⊎ Name m k d (row_of_kind k) blank us c es → is_first k (head_kind (tokens_in c ++ us)) ≡ true
    first (inl t) =
        ap (λ c. is_first k (head_kind (tokens_in c ++ us))) t.is
        ∙ ap (λ w. w || (is_viable (after (row_of_kind k) NODE_IDENT) && is_name t.item.kind)) t.alive
    first (inr t) =
        ap (λ c. is_first k (head_kind (tokens_in c ++ us))) t.is
        ∙ or_true (is_viable (after (row_of_kind k) (leaf_kind k t.item)))
        (ap (λ w. w && is_name t.item.kind) t.alive ∙ ap (λ j. same_kind j TOKEN_IDENT) t.kind)

    by : (v : Bool) → begins_with_item k ≡ v → (if v then is_first k (head_kind (tokens_in c ++ us)) else true) ≡ true
    by true e =
        let w = and_parts (names_only (row_of_kind k)) (is_firm (row_of_kind k))
        (implied begins_with_item (λ k. names_only (row_of_kind k) && is_firm (row_of_kind k)) refl k e) in
        first (item_or_name w.0 (front_of refl r w.1))
    by false e = refl
