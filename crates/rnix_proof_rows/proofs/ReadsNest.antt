-- What is read nests no deeper than the limit, error nodes aside, and what is nested too deep is inside exactly as many counted positions as the limit.
use Rattle.std.{specs.List.list_all, proofs.Common.{◌≡◌, ℕ, suc, ◌+◌, ◌<◌, ◌≤◌, Bool, true, false, List, [], ◌∷◌, ◌++◌, refl, ap, sym, ◌∙◌, subst, arith, max}}
use Rattle.{std.proofs.{Common.{◌&&◌, if◌then◌else◌}, lemmas.Bool.and_from}, rnix_kinds.specs.declared.kinds.SyntaxKind.SyntaxKind}
use Rattle.rnix_kinds.{specs.declared.kinds.SyntaxKind.TheVariants.{NODE_PAT_ENTRY, NODE_ROOT}, proofs.AllKinds.{all_kinds, every, implied}}
use Rattle.rnix_grammar.specs.{Fault.Fault, Tables.depth_limit, AnnotatedForest.{Token, Note, TooDeep, AnnotatedForest, blank, token, branch, fault, forget}}
use Rattle.rnix_grammar.specs.{AnnotatedForest.{tokens_in, leaf_kind}, BehindErrors.after_error, Nesting.{depth_of, IsLimited, AreLimited}, Nest.{nest, nests}}
use Rattle.rnix_grammar.specs.{Reads.{Reads, ReadsRoot, end, leaf, missing_part, wrong, second, inner, deeper, IsWrong}, Rules.{Row, row, after, may_end}}
use Rattle.{rnix_grammar.specs.{Rules.counts, Repaired.kinds_of, CompleteRows.after_all}, rnix_green.specs.Forest.{Forest, node}}
use Rattle.rnix_proof_lemmas.proofs.{Basics.{true_is_not_false, not_if}, EveryKind.only, RowKinds.has_row, EntryNodes.is_formal, AfterErrors.wrong_goes}
use Rattle.rnix_proof_lemmas.proofs.ReachableRows.{IsKnown, is_viable, every_known, known_row, known_after, known_missing, known_past, known_wrong}
use Rattle.{rnix_proof_lemmas.proofs.ViableRows.{end_viable, later_viable, complete_has_row}, rnix_proof_rows.proofs.RowsWithoutAttrpath.begins_with_child}
use Rattle.rnix_proof_rows.proofs.{RowsWithoutAttrpath.{missing_no_attrpath, HasNoNode, no_attrpath_row}, ReadsShapes.{AreErrorFreeRows, IsErrorFree}}

-- an error node of the nesting limit is inside as many counted positions as the limit
wrong_limited : (n : Note) (d : ℕ) (q r : Row) (ts us : List Token) → IsWrong n d q r ts us → IsLimited d n
wrong_limited TooDeep d q r ts us h = h.2
wrong_limited _ d q r ts us h = tt

-- a forest inside `d` counted positions nests within the limit, and what is nested too deep in it is inside as many as the limit
abbrev Nests : ℕ → Row → AnnotatedForest → Type 0
Nests d q f = (d + depth_of q f ≤ depth_limit) × AreLimited d q f

-- a forest without nodes does so at any row if it does at one
elsewhere : (d : ℕ) (q r : Row) (f : AnnotatedForest) → HasNoNode f → Nests d r f → Nests d q f
elsewhere d q r blank n h = h
elsewhere d q r (token k t f) n h = elsewhere d (after q k) (after r k) f n h
elsewhere d q r (branch k c f) n h = absurd n
elsewhere d q r (fault note c f) n h =
    let w : Nests d (after_error q note) f = elsewhere d (after_error q note) (after_error r note) f n (h.0, h.1.1) in
    (w.0, (h.1.0, w.1))

-- another counted position stays within the limit if it is only entered where there is room
room : (c : Bool) (d : ℕ) → (c ≡ true → d < depth_limit) → d ≤ depth_limit → (if c then suc d else d) ≤ depth_limit
room true d h l = let m : d < depth_limit = h refl in omega (arith, m)
room false d h l = l

-- a node and the trees after it are within the limit if both are
both : (c : Bool) (d m n : ℕ) → (if c then suc d else d) + m ≤ depth_limit → d + n ≤ depth_limit → d + max (if c then suc m else m) n ≤ depth_limit
both true d m n h l = omega (arith, h, l)
both false d m n h l = omega (arith, h, l)

-- each forest that is read is within the limit
reads_nest : {p : SyntaxKind} {d n : ℕ} {q q' : Row} {b : AnnotatedForest} {us : List Token} {f : AnnotatedForest} {es : List Fault}
    → Reads p d n q q' b us f es → IsKnown p q → is_viable q' ≡ true → d ≤ depth_limit → Nests d q f
reads_nest {d = d} end i l h = (omega (arith, h), tt)
reads_nest {p} (leaf {t = t} x o s) i l h = reads_nest s (known_after (leaf_kind p t) i) l h
reads_nest {d = d} {q = q} (missing_part {r = r} {f = f} u t m o s) i l h =
    let next : IsKnown _ r = known_missing m i in
    elsewhere d q r f (no_attrpath_row s next l (missing_no_attrpath i m) u t) (reads_nest s next l h)
reads_nest {d = d} {q = q} {us = us} (wrong {r = r} {f = f} note ts x o v s) i l h =
    let w = subst (λ r. Nests d r f) (sym (wrong_goes note d q r ts (tokens_in f ++ us) v)) (reads_nest s (known_wrong note _ _ _ v i) l h) in
    (w.0, (wrong_limited note d q r ts (tokens_in f ++ us) v, w.1))
reads_nest (second s y x) i l h = let w = reads_nest x (known_past i) l h in (w.0, (tt, w.1))
reads_nest {d = d} {q = q} (inner {k = k} {c = c} {f = f} o s y x j z t) i l h =
    let inside : Nests (deeper q d) (row k) c = reads_nest s (known_row k) (end_viable _ y.0) (room (counts q) d o h) in
    let w = reads_nest t (known_after k i) l h in
    (both (counts q) d (depth_of (row k) c) (depth_of (after q k) f) inside.0 w.0, (inside.1, w.1))

root_nest : (f : AnnotatedForest) (es : List Fault) → ReadsRoot f es → Nests 0 (row NODE_ROOT) f
root_nest f es r = reads_nest r (known_row NODE_ROOT) refl (omega arith)

-- a whole text nests within the limit, error nodes aside
pub reads_shallow : (f : AnnotatedForest) (es : List Fault) → ReadsRoot f es → depth_of (row NODE_ROOT) f ≤ depth_limit
reads_shallow f es r = let w : 0 + depth_of (row NODE_ROOT) f ≤ depth_limit = (root_nest f es r).0 in omega (arith, w)

-- what is nested too deep in it is inside exactly as many counted positions as the limit
pub reads_limited : (f : AnnotatedForest) (es : List Fault) → ReadsRoot f es → AreLimited 0 (row NODE_ROOT) f
reads_limited f es r = (root_nest f es r).1

-- the row is that of an entry of a pattern before its name, which is no operand
abbrev is_entry_start : SyntaxKind → Row → Bool
is_entry_start i q = is_viable q && (is_formal i && begins_with_child q)

-- after a child, no row is such a row
entry_later : {i : SyntaxKind} (q : Row) (k : SyntaxKind) → IsKnown i q → is_entry_start i (after q k) ≡ false
entry_later {i} q k n = not_if (is_entry_start i (after q k)) (every (λ k. if is_entry_start i (after q k) then false else true)
    (every_known (λ i q. list_all (λ k. if is_entry_start i (after q k) then false else true) all_kinds) (λ i. refl) refl i q n) k)

-- at all other positions, a node that counts by its kind also counts along the row
abbrev goes_counted : SyntaxKind → Row → SyntaxKind → Bool
goes_counted i q k = has_row i && (has_row k && (is_viable (after q k) && nests i k))

abbrev is_counted : SyntaxKind → Row → Bool
is_counted i q = if is_entry_start i q then true else list_all (λ k. if goes_counted i q k then counts q else true) all_kinds

counted : {i : SyntaxKind} (q : Row) (k : SyntaxKind) → IsKnown i q → is_entry_start i q ≡ false → has_row i ≡ true → has_row k ≡ true
    → is_viable (after q k) ≡ true → nests i k ≡ true → counts q ≡ true
counted {i} q k n s u r l h = implied (goes_counted i q) (λ k. counts q)
    (sym (ap (λ w. if w then true else list_all (λ k. if goes_counted i q k then counts q else true) all_kinds) s)
    ∙ every_known is_counted (λ i. by (has_row i)) refl i q n) k (and_from _ _ u (and_from _ _ r (and_from _ _ l h)))
  where
    by : (w : Bool) → list_all (λ k. if w && (has_row k && (false && nests i k)) then false else true) all_kinds ≡ true
    by true = refl
    by false = refl

-- a node and the trees after it nest by kinds at most as deep as along the row
no_more : (v w : Bool) (m n k l : ℕ) → (v ≡ true → w ≡ true) → m ≤ k → n ≤ l → max (if v then suc m else m) n ≤ max (if w then suc k else k) l
no_more true true m n k l i h j = omega (arith, h, j)
no_more true false m n k l i h j = absurd (true_is_not_false (sym (i refl)))
no_more false true m n k l i h j = omega (arith, h, j)
no_more false false m n k l i h j = omega (arith, h, j)

-- a forest begins with a node
abbrev begins_with_node : AnnotatedForest → Bool
begins_with_node (branch k c f) = true
begins_with_node f = false

-- all trees but entries of patterns with a name nest by their kinds
nest_other : (p k : SyntaxKind) (c : AnnotatedForest) (f : Forest) → (begins_with_node c && is_formal k) ≡ false
    → AreErrorFreeRows c → nest p (node k (forget c) f) ≡ max (if nests p k then suc (nest k (forget c)) else nest k (forget c)) (nest p f)
nest_other p NODE_PAT_ENTRY blank f h r = refl
nest_other p NODE_PAT_ENTRY (token j t e) f h r = refl
nest_other p NODE_PAT_ENTRY (branch j d e) f h r = absurd (true_is_not_false h)
nest_other p NODE_PAT_ENTRY (fault n d e) f h r = absurd r
nest_other p _ c f h r = refl

formal_is : (k : SyntaxKind) → is_formal k ≡ true → k ≡ NODE_PAT_ENTRY
formal_is = only is_formal NODE_PAT_ENTRY refl

-- an entry that begins with its name nests by kinds at most as deep as along the row
name_bounded : (w : Bool) (m n o k l : ℕ) → m ≤ k → n ≤ l → max m n ≤ max (if w then suc (max o k) else max o k) l
name_bounded true m n o k l h j = omega (arith, h, j)
name_bounded false m n o k l h j = omega (arith, h, j)

entry_bounded : (p : SyntaxKind) (q : Row) (k j : SyntaxKind) (d e f : AnnotatedForest) → k ≡ NODE_PAT_ENTRY → nest k (forget e) ≤ depth_of (after (row k) j) e
    → nest p (forget f) ≤ depth_of (after q k) f → nest p (forget (branch k (branch j d e) f)) ≤ depth_of q (branch k (branch j d e) f)
entry_bounded p q k j d e f n behind later =
    subst (λ k. nest k (forget e) ≤ depth_of (after (row k) j) e → nest p (forget f) ≤ depth_of (after q k) f
    → nest p (forget (branch k (branch j d e) f)) ≤ depth_of q (branch k (branch j d e) f)) (sym n)
    (name_bounded (counts q) (nest NODE_PAT_ENTRY (forget e)) (nest p (forget f)) _
    (depth_of (after (row NODE_PAT_ENTRY) j) e) (depth_of (after q NODE_PAT_ENTRY) f)) behind later

-- a node nests by its kind at most as deep as along the row
node_bounded : (p : SyntaxKind) (q : Row) (k : SyntaxKind) (c f : AnnotatedForest) → (begins_with_node c && is_formal k) ≡ false → AreErrorFreeRows c
    → (nests p k ≡ true → counts q ≡ true) → nest k (forget c) ≤ depth_of (row k) c → nest p (forget f) ≤ depth_of (after q k) f
    → nest p (forget (branch k c f)) ≤ depth_of q (branch k c f)
node_bounded p q k c f h r w inside later =
    subst (λ m. m ≤ depth_of q (branch k c f)) (sym (nest_other p k c (forget f) h r))
    (no_more (nests p k) (counts q) (nest k (forget c)) (nest p (forget f)) (depth_of (row k) c) (depth_of (after q k) f) w inside later)

-- a forest whose nodes have their rows nests by kinds at most as deep as along its row
bounded : (p : SyntaxKind) (q : Row) (f : AnnotatedForest) → IsKnown p q → has_row p ≡ true → is_entry_start p q ≡ false → AreErrorFreeRows f
    → may_end (after_all q (kinds_of (forget f))) ≡ true → nest p (forget f) ≤ depth_of q f
bounded p q blank i u s r w = omega arith
bounded p q (token k t f) i u s r w = bounded p (after q k) f (known_after k i) u (entry_later q k i) r w
bounded p q (fault n c f) i u s r w = absurd r
bounded p q (branch k blank f) i u s r w =
    node_bounded p q k blank f refl tt (counted q k i s u (complete_has_row k [] r.0) (later_viable (after q k) (kinds_of (forget f)) w)) (omega arith)
    (bounded p (after q k) f (known_after k i) u (entry_later q k i) r.3 w)
bounded p q (branch k (token j t e) f) i u s r w =
    let v : has_row k ≡ true = complete_has_row k (j ∷ kinds_of (forget e)) r.0 in
    node_bounded p q k (token j t e) f refl r.2 (counted q k i s u v (later_viable (after q k) (kinds_of (forget f)) w))
    (bounded k (after (row k) j) e (known_after j (known_row k)) v (entry_later (row k) j (known_row k)) r.2 r.0)
    (bounded p (after q k) f (known_after k i) u (entry_later q k i) r.3 w)
bounded p q (branch k (fault n d e) f) i u s r w = absurd r.2
bounded p q (branch k (branch j d e) f) i u s r w =
    let v : has_row k ≡ true = complete_has_row k (j ∷ kinds_of (forget e)) r.0 in
    by (is_formal k) refl (counted q k i s u v (later_viable (after q k) (kinds_of (forget f)) w))
    (λ h. bounded k (row k) (branch j d e) (known_row k) v h r.2 r.0)
    (bounded k (after (row k) j) e (known_after j (known_row k)) v (entry_later (row k) j (known_row k)) r.2.3 r.0)
    (bounded p (after q k) f (known_after k i) u (entry_later q k i) r.3 w)
  where
    by : (v : Bool) → is_formal k ≡ v → (nests p k ≡ true → counts q ≡ true)
        → (is_entry_start k (row k) ≡ false → nest k (node j (forget d) (forget e)) ≤ depth_of (row k) (branch j d e))
        → nest k (forget e) ≤ depth_of (after (row k) j) e → nest p (forget f) ≤ depth_of (after q k) f
        → nest p (forget (branch k (branch j d e) f)) ≤ depth_of q (branch k (branch j d e) f)
    by false v c inside behind later = node_bounded p q k (branch j d e) f v r.2 c (inside (start_other (is_viable (row k)) v)) later
      where
        start_other : (w : Bool) → is_formal k ≡ false → (w && (is_formal k && begins_with_child (row k))) ≡ false
        start_other true e = ap (λ w. w && begins_with_child (row k)) e
        start_other false e = refl
    by true v c inside behind later = entry_bounded p q k j d e f (formal_is k v) behind later

-- without error nodes, a whole text nests no more counted expressions than the limit allows
pub reads_nested : (f : AnnotatedForest) (es : List Fault) → ReadsRoot f es → IsErrorFree f → nest NODE_ROOT (forget f) ≤ depth_limit
reads_nested f es r h =
    let most : nest NODE_ROOT (forget f) ≤ depth_of (row NODE_ROOT) f = bounded NODE_ROOT (row NODE_ROOT) f (known_row NODE_ROOT) refl refl h.nodes h.root in
    let limit : depth_of (row NODE_ROOT) f ≤ depth_limit = reads_shallow f es r in
    omega (arith, most, limit)
