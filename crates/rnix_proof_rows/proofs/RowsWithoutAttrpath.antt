-- Which rows contain items: each that begins with a child that its node always has. If no item is left, only error nodes are read,
-- unless an attribute path may be read.
use Rattle.std.{specs.List.list_all, proofs.Common.{◌≡◌, ℕ, Bool, true, false, List, [], ◌∷◌, ◌++◌, Option, Some, None, refl, ap, sym, ◌∙◌, subst, arith}}
use Rattle.{std.proofs.{Common.{if◌then◌else◌, ◌&&◌}, lemmas.Bool.and_from}, rnix_kinds.specs.declared.kinds.SyntaxKind.{SyntaxKind, TheVariants.NODE_LITERAL}}
use Rattle.{rnix_kinds.proofs.AllKinds.{all_kinds, implied}, rnix_grammar.specs.{Fault.Fault, declared.rules.Part.TheVariants.{Child, Atom, First, Suffix}}}
use Rattle.rnix_grammar.specs.{declared.rules.Part.TheVariants.{Binary, Argument, Attrpath, BoundAlready}, AnnotatedForest.{Token, Note, Stray, Unwanted}}
use Rattle.rnix_grammar.specs.AnnotatedForest.{Extra, DoubleBind, TooDeep, AnnotatedForest, blank, token, branch, fault, one_branch, is_some, row_of, tokens_in}
use Rattle.rnix_grammar.specs.{FirstKinds.{BeginsAs, IsOperandOf}, Reads.{Reads, end, leaf, missing_part, wrong, second, inner, IsWrong}, Rules.{Row, never}}
use Rattle.rnix_grammar.specs.Rules.{done, ◌·◌, ◌or◌, row, after, may_end, missing, expects_end, IsExpected, is_first_expected, level_at, counts}
use Rattle.rnix_proof_lemmas.proofs.{Basics.{true_is_not_false, not_nil, none_remaining, none_right}, AnnotatedForestLemmas.tokens_in-row_of, UnwantedRuns.some_remaining}
use Rattle.rnix_proof_lemmas.proofs.{ReachableRows.{IsKnown, is_viable, every_known, known_row, known_missing, known_past, known_wrong}, ViableRows.end_viable}
use Rattle.rnix_proof_lemmas.proofs.ViableRows.{reads_viable}

-- the row begins with a child that its node always has, or is `never`
abbrev pub begins_with_child : Row → Bool
begins_with_child never = true
begins_with_child (Child kind · r) = true
begins_with_child (Atom · r) = true
begins_with_child (First n · r) = true
begins_with_child (Suffix kind · r) = true
begins_with_child (Binary · r) = true
begins_with_child (Argument · r) = true
begins_with_child (r or s) = true
begins_with_child r = false

-- so it may not end, and no part is missing
child_not_ended : (q : Row) → begins_with_child q ≡ true → may_end q ≡ false
child_not_ended (Atom · r) h = refl
child_not_ended _ h = cc

child_counts : (q : Row) → begins_with_child q ≡ true → counts q ≡ false
child_counts (Atom · r) h = refl
child_counts _ h = cc

child_lost : (q r : Row) (e : Fault) → begins_with_child q ≡ true → missing q ≡ Some (e, r) → ⊥
child_lost (Atom · q) r e h m = absurd (cc)
child_lost _ r e h m = absurd (cc)

-- each node that may be read at a row, and whose kind passes a test, begins with a child that it always has
abbrev leads : (SyntaxKind → Bool) → Row → Bool
leads test r = list_all (λ k. if test k && is_viable (after r k) then begins_with_child (row k) else true) all_kinds

leads_on : (test : SyntaxKind → Bool) (r : Row) (k : SyntaxKind) → leads test r ≡ true → test k ≡ true → is_viable (after r k) ≡ true
    → begins_with_child (row k) ≡ true
leads_on test r k h t l = implied (λ k. test k && is_viable (after r k)) (λ k. begins_with_child (row k)) h k (and_from _ _ t l)

-- the row of a node that may be read there begins with such a child
child_node : {i : SyntaxKind} (q : Row) (k : SyntaxKind) → IsKnown i q → begins_with_child q ≡ true → is_viable (after q k) ≡ true
    → begins_with_child (row k) ≡ true
child_node {i} q k n h l =
    leads_on (λ k. begins_with_child q) q k (every_known (λ i q. leads (λ k. begins_with_child q) q) (λ i. refl) refl i q n) h l

-- an error node there contains items
wrong_some : (note : Note) (d : ℕ) (q r : Row) (ts vs : List Token) → begins_with_child q ≡ true → IsWrong note d q r ts vs → is_some ts ≡ true
wrong_some Stray d q r [] vs h w = absurd (cc)
wrong_some Stray d q r (t ∷ ts) vs h w = refl
wrong_some (Unwanted until) d q r ts vs h w = w.0
wrong_some Extra d q r ts vs h w = w.0
wrong_some DoubleBind d q r ts vs h w = absurd w
wrong_some TooDeep d q r ts vs h w = absurd (true_is_not_false (sym w.1 ∙ child_counts q h))

-- a complete row that begins with such a child contains items
pub row_some : {i : SyntaxKind} {d n : ℕ} {q s : Row} {b : AnnotatedForest} {us : List Token} {f : AnnotatedForest} {es : List Fault}
    → Reads i d n q s b us f es
    → IsKnown i q → begins_with_child q ≡ true → may_end s ≡ true → is_some (tokens_in f) ≡ true
row_some {q = q} end i h w = absurd (true_is_not_false (sym w ∙ child_not_ended q h))
row_some (leaf x o s) i h w = refl
row_some {q = q} (missing_part {r = r} {e = e} u l m o s) i h w = absurd (child_lost q r e h m)
row_some {d = d} {q = q} {us = us} (wrong {r = r} {f = f} note ts x o v s) i h w =
    some_remaining (tokens_in (row_of ts)) (tokens_in f) (ap is_some (tokens_in-row_of ts) ∙ wrong_some note d q r ts (tokens_in f ++ us) h v)
row_some (second s y o) i h w = absurd (true_is_not_false (sym h))
row_some {q = q} (inner {k = k} {c = c} {f = f} o s y x j z t) i h w =
    some_remaining (tokens_in c) (tokens_in f) (row_some s (known_row k) (child_node q k i h (reads_viable t (end_viable _ w))) y.0)

-- the end of a pattern that has a bound name before it
abbrev pub is_bound : Row → Bool
is_bound (BoundAlready · r) = true
is_bound r = false

-- no attribute path may be read here
abbrev pub has_no_attrpath : Row → Bool
has_no_attrpath (Attrpath · r) = false
has_no_attrpath r = true

-- no attribute path may be read after a missing part
abbrev has_no_attrpath_after : Option (Fault × Row) → Bool
has_no_attrpath_after None = true
has_no_attrpath_after (Some w) = has_no_attrpath w.1

pub missing_no_attrpath : {i : SyntaxKind} {q r : Row} {e : Fault} → IsKnown i q → missing q ≡ Some (e, r) → has_no_attrpath r ≡ true
missing_no_attrpath {i} {q} k m = sym (ap has_no_attrpath_after m) ∙ every_known (λ i q. has_no_attrpath_after (missing q)) (λ i. refl) refl i q k

-- nor after an operand that counts
counted_no_attrpath : {i : SyntaxKind} (q : Row) → IsKnown i q → counts q ≡ true → has_no_attrpath (after q NODE_LITERAL) ≡ true
counted_no_attrpath {i} q k c = sym (ap (λ w. if w then has_no_attrpath (after q NODE_LITERAL) else true) c) ∙
    every_known (λ i q. if counts q then has_no_attrpath (after q NODE_LITERAL) else true) (λ i. refl) refl i q k

-- an error node without tokens replaces an operand that counts; no attribute path may be read after it, and no item follows
pub wrong_empty : {i : SyntaxKind} (n : Note) (d : ℕ) (q r : Row) (vs : List Token) → IsKnown i q → IsWrong n d q r [] vs
    → (counts q ≡ true) × (has_no_attrpath r ≡ true) × (vs ≡ [])
wrong_empty Stray d q r vs k h = absurd (omega (arith, h.0))
wrong_empty (Unwanted until) d q r vs k h = absurd (true_is_not_false (sym h.0))
wrong_empty Extra d q r vs k h = absurd (true_is_not_false (sym h.0))
wrong_empty DoubleBind d q r vs k h = absurd h
wrong_empty TooDeep d q r vs k h = (h.1, subst (λ z. has_no_attrpath z ≡ true) h.3 (counted_no_attrpath q k h.1), h.0)

-- two tests give the same result
abbrev pub is_same : Bool → Bool → Bool
is_same true w = w
is_same false w = if w then false else true

pub same_true : (v w : Bool) → v ≡ w → is_same v w ≡ true
same_true true w e = sym e
same_true false w e = ap (λ z. if z then false else true) (sym e)

-- at any other row, a reading says whether the end of the text is expected; neither a level nor what is expected depends on the tree
abbrev Asks : Row → Type 0
Asks q = ((n : ℕ) (own : Bool) → IsExpected q n [] own → expects_end q ≡ own) × ((x : AnnotatedForest) → level_at q x ≡ level_at q blank)
    × ((k : SyntaxKind) (c : AnnotatedForest) → is_first_expected q k c ≡ is_first_expected q k blank)

asks : (q : Row) → begins_with_child q ≡ false → Asks q
asks done h = (λ n own e. e, λ x. refl, λ k c. refl)
asks (Child kind · r) h = absurd (true_is_not_false h)
asks (Atom · r) h = absurd (true_is_not_false h)
asks (First m · r) h = absurd (true_is_not_false h)
asks (Suffix kind · r) h = absurd (true_is_not_false h)
asks (Binary · r) h = absurd (true_is_not_false h)
asks (Argument · r) h = absurd (true_is_not_false h)
asks (_ · r) h = (λ n own e. e, λ x. refl, λ k c. refl)
asks _ h = absurd (true_is_not_false h)

-- no level is required
abbrev pub is_free : Option ℕ → Bool
is_free None = true
is_free (Some level) = false

-- neither an operand nor an attribute path may be read
abbrev is_settled : Row → Bool
is_settled q = (if begins_with_child q then false else true) && (has_no_attrpath q && is_free (level_at q blank))

-- a node that may be read if no item is left
abbrev is_next : Row → SyntaxKind → Bool
is_next q k = is_same (expects_end q) (is_first_expected q k blank)

settled_node : {i : SyntaxKind} (q : Row) (k : SyntaxKind) → IsKnown i q → is_settled q ≡ true → is_next q k ≡ true → is_viable (after q k) ≡ true
    → begins_with_child (row k) ≡ true
settled_node {i} q k n h t l =
    leads_on (is_next q) q k (sym (ap (λ w. if w then leads (is_next q) q else true) h) ∙
    every_known (λ i q. if is_settled q then leads (is_next q) q else true) (λ i. refl) refl i q n) t l

-- the row of a node that is read there begins with a child that the node always has
begins_child : {i : SyntaxKind} (q : Row) (k : SyntaxKind) (c : AnnotatedForest) (n : ℕ) → IsKnown i q → has_no_attrpath q ≡ true
    → IsExpected q n [] (is_first_expected q k c)
    → level_at q (one_branch k c) ≡ None → is_viable (after q k) ≡ true → begins_with_child (row k) ≡ true
begins_child q k c n i h o e l = by (begins_with_child q) refl
  where
    by : (w : Bool) → begins_with_child q ≡ w → begins_with_child (row k) ≡ true
    by true f = child_node q k i f l
    by false f =
        let a = asks q f in
        settled_node q k i
        (and_from _ _ (ap (λ w. if w then false else true) f) (and_from _ _ h (ap is_free (sym (a.1 (one_branch k c)) ∙ e))))
        (same_true _ _ (a.0 n _ o ∙ a.2 k c)) l

-- if no item is left, no operand is read except as an error node
no_operand : (o : Option ℕ) (x : AnnotatedForest) (us : List Token) → tokens_in x ++ us ≡ [] → IsOperandOf o x us → o ≡ None
no_operand None x us e h = refl
no_operand (Some level) x us e h = absurd (subst (BeginsAs level x) e h.1)

-- the only nodes of a forest are error nodes
abbrev pub HasNoNode : AnnotatedForest → Type 0
HasNoNode blank = Unit {0}
HasNoNode (token k t f) = HasNoNode f
HasNoNode (branch k c f) = ⊥
HasNoNode (fault n c f) = HasNoNode f

-- this holds for a forest without tokens, if no item is left and no attribute path may be read
pub no_attrpath_row : {p : SyntaxKind} {d n : ℕ} {q q' : Row} {b : AnnotatedForest} {us : List Token} {f : AnnotatedForest} {es : List Fault}
    → Reads p d n q q' b us f es → IsKnown p q → is_viable q' ≡ true → has_no_attrpath q ≡ true → us ≡ [] → tokens_in f ≡ [] → HasNoNode f
no_attrpath_row end i l h u e = tt
no_attrpath_row (leaf x o s) i l h u e = absurd (not_nil e)
no_attrpath_row (missing_part w t m o s) i l h u e = no_attrpath_row s (known_missing m i) l (missing_no_attrpath i m) u e
no_attrpath_row {d = d} {q = q} {us = us} (wrong {r = r} {f = f} note ts x o v s) i l h u e =
    let none : ts ≡ [] = sym (tokens_in-row_of ts) ∙ none_remaining (tokens_in (row_of ts)) (tokens_in f) e in
    let empty = wrong_empty note d q r (tokens_in f ++ us) i (subst (λ ts. IsWrong note d q r ts (tokens_in f ++ us)) none v) in
    no_attrpath_row s (known_wrong note _ _ _ v i) l empty.1 u (none_right (tokens_in (row_of ts)) (tokens_in f) e)
no_attrpath_row (second {c = c} {f = f} s y o) i l h u e = no_attrpath_row o (known_past i) l refl u (none_right (tokens_in c) (tokens_in f) e)
no_attrpath_row {n = n} {q = q} {us = us} (inner {k = k} {c = c} {f = f} o s y x j z t) i l h u e =
    let none : tokens_in c ≡ [] = none_remaining (tokens_in c) (tokens_in f) e in
    let last : tokens_in f ++ us ≡ [] = ap (λ ts. ts ++ us) (none_right (tokens_in c) (tokens_in f) e) ∙ u in
    let own : IsExpected q n [] (is_first_expected q k c) =
    subst (λ ts. IsExpected q n ts (is_first_expected q k c)) (ap (λ ts. ts ++ (tokens_in f ++ us)) none ∙ last) x in
    let free : level_at q (one_branch k c) ≡ None =
    no_operand (level_at q (one_branch k c)) (one_branch k c) (tokens_in f ++ us) (ap (λ ts. (ts ++ []) ++ (tokens_in f ++ us)) none ∙ last) z in
    absurd (true_is_not_false (sym (row_some s (known_row k) (begins_child q k c n i h own free (reads_viable t l)) y.0) ∙ ap is_some none))
