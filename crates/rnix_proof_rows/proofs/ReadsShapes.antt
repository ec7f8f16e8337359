-- A reading has no errors exactly if each of its nodes has its shape, and nothing in it is reported.
use Rattle.std.{specs.List.list_all, proofs.Common.{◌≡◌, ◌↔◌, inl, inr, ℕ, ◌+◌, Bool, true, false, List, [], ◌∷◌, ◌++◌, refl, ap, sym, ◌∙◌, arith}}
use Rattle.{std.proofs.Common.{if◌then◌else◌, ◌&&◌}, rnix_kinds.specs.declared.kinds.SyntaxKind.{SyntaxKind, TheVariants.{NODE_ROOT, NODE_PATTERN}}}
use Rattle.{rnix_kinds.{specs.declared.kinds.SyntaxKind.TheVariants.NODE_PAT_BIND, proofs.AllKinds.{all_kinds, every}}, rnix_green.specs.Forest.node}
use Rattle.{rnix_green.{specs.{Forest.{leaf as leaf_in}}}, rnix_grammar.specs.{declared.rules.Part.TheVariants.EndOr, Fault.Fault, AnnotatedForest.Token}}
use Rattle.rnix_grammar.specs.{AnnotatedForest.{AnnotatedForest, blank, token, branch, fault, forget, DoubleBind, tokens_in, leaf_kind}, Rules.{Row, ◌·◌, row}}
use Rattle.rnix_grammar.specs.{Rules.{after, may_end}, CompleteRows.{after_all, is_row}, Reads.{Reads, ReadsRoot, end, leaf, missing_part, wrong, second}}
use Rattle.rnix_grammar.specs.{Reads.inner, Named.{AreNamed, begins_with_token, is_bind_at, is_name_allowed}, ErrorNodes.AreErrorNodes, Reports.report}
use Rattle.rnix_grammar.specs.{Reports.repeats, Repaired.{repaired, kinds_of, incomplete, is_ended, ended_count, others}}
use Rattle.rnix_proof_lemmas.{specs.RowReports.{reports_behind, reports}, proofs.Basics.{true_is_not_false, not_nil, none_remaining, none_right, Where, where_one}}
use Rattle.rnix_proof_lemmas.proofs.{EachKind.each_kind, EntryNames.both_true, ReachableRows.{IsKnown, is_viable, every_known, known_row, known_after}}
use Rattle.{rnix_proof_lemmas.proofs.ViableRows.{end_viable, reads_viable}, rnix_proof_rows.proofs.NamedRows.{are_named, is_end_or}}
use Rattle.rnix_proof_rows.proofs.{ErrorNodeRows.root_error_nodes, ReadsFaults.reads_errors, ReadsRows.{half, reads_counts}, RepairedRows.simulates_self}

-- no longer at the first child
abbrev pub not_first : Bool → Bool
not_first first = if first then false else true

-- where the name of a pattern is allowed, the row may end exactly if a child precedes the name
abbrev Agrees : Bool → Row → Type 0
Agrees first q = is_viable (after q NODE_PAT_BIND) ≡ true → is_end_or q ≡ not_first first

-- this holds at the beginning of each row
agrees_start : (k : SyntaxKind) → Agrees true (row k)
agrees_start k = λ l. where_one (is_viable (after (row k) NODE_PAT_BIND)) l
    (each_kind (λ k. Where (is_viable (after (row k) NODE_PAT_BIND)) (is_end_or (row k) ≡ false)) (assumption) k)

-- this holds after each child
abbrev binds_behind : Row → SyntaxKind → Bool
binds_behind q k = if is_viable (after (after q k) NODE_PAT_BIND) then is_end_or (after q k) else true

agrees_later : {i : SyntaxKind} (q : Row) (k : SyntaxKind) → IsKnown i q → Agrees false (after q k)
agrees_later {i} q k n = λ l. sym (ap (λ w. if w then is_end_or (after q k) else true) l)
    ∙ every (binds_behind q) (every_known (λ i q. list_all (binds_behind q) all_kinds) (λ i. refl) refl i q n) k

-- the bound name of a pattern, trivia aside, has the form for its place: `a @` as the first child, otherwise `@ a`
abbrev pub is_item_bind_formed : Bool → SyntaxKind → AnnotatedForest → Bool
is_item_bind_formed true NODE_PAT_BIND c = if begins_with_token c then false else true
is_item_bind_formed false NODE_PAT_BIND c = begins_with_token c
is_item_bind_formed first k c = true

-- the bound name of a pattern has the form that the rest of the row requires
bound_formed : (first : Bool) (q : Row) (c : AnnotatedForest) → is_end_or q ≡ not_first first → is_bind_at q c ≡ true
    → is_item_bind_formed first NODE_PAT_BIND c ≡ true
bound_formed true (EndOr kind · r) c a h = absurd (true_is_not_false a)
bound_formed false (EndOr kind · r) c a h = h
bound_formed true _ c a h = h
bound_formed false _ c a h = absurd (true_is_not_false (sym a))

-- so the bound name has the form for its place among the children
formed_item : (first : Bool) (q : Row) (k : SyntaxKind) (c : AnnotatedForest) → Agrees first q → is_viable (after q k) ≡ true → is_name_allowed q k c ≡ true
    → is_item_bind_formed first k c ≡ true
formed_item first q NODE_PAT_BIND c a l h = bound_formed first q c (a l) h
formed_item true q _ c a l h = refl
formed_item false q _ c a l h = refl

-- the bound names of a forest without trivia have their forms
abbrev pub are_item_binds_formed : Bool → AnnotatedForest → Bool
are_item_binds_formed first blank = true
are_item_binds_formed first (token k t f) = are_item_binds_formed false f
are_item_binds_formed first (branch k c f) = is_item_bind_formed first k c && are_item_binds_formed false f
are_item_binds_formed first (fault n c f) = are_item_binds_formed false f

-- trivia aside, the children of every node are a row of its kind, the names of patterns have their forms, and no node is an error node
abbrev pub AreErrorFreeRows : AnnotatedForest → Type 0
AreErrorFreeRows blank = Unit {0}
AreErrorFreeRows (token k t f) = AreErrorFreeRows f
AreErrorFreeRows (branch k c f) = (is_row k (kinds_of (forget c)) ≡ true) × (are_item_binds_formed true c ≡ true) × AreErrorFreeRows c × AreErrorFreeRows f
AreErrorFreeRows (fault n c f) = ⊥

-- a forest of such nodes leads from one rest of its row to another
pub record IsErrorFreeRow (first : Bool) (q q' : Row) (f : AnnotatedForest) : Type 0 where
  pub nodes : AreErrorFreeRows f
  pub binds : are_item_binds_formed first f ≡ true
  pub reaches : after_all q (kinds_of (forget f)) ≡ q'

-- without errors, the children of every node are a row of its kind
reads_rows : {p : SyntaxKind} {d n : ℕ} {q q' : Row} {b : AnnotatedForest} {us : List Token} {f : AnnotatedForest} {es : List Fault} (first : Bool)
    → Reads p d n q q' b us f es → es ≡ [] → is_viable q' ≡ true → IsKnown p q → AreNamed q f → Agrees first q → IsErrorFreeRow first q q' f
reads_rows first end n l i w g = record { nodes = tt; binds = refl; reaches = refl }
reads_rows {p} {q = q} first (leaf {t = t} x o s) n l i names m =
    let k : SyntaxKind = leaf_kind p t in
    let w = reads_rows false s n l (known_after k i) names (agrees_later q k i) in
    record { nodes = w.nodes; binds = w.binds; reaches = w.reaches }
reads_rows first (missing_part u t z o s) n l i names m = absurd (not_nil n)
reads_rows first (wrong note ts x o v s) n l i names m = absurd (not_nil n)
reads_rows first (second {c = c} {ds = ds} {es = es} s y x) n l i names m =
    absurd (not_nil (none_right ds (report DoubleBind (tokens_in c) ∷ []) (none_remaining (ds ++ report DoubleBind (tokens_in c) ∷ []) es n)))
reads_rows {q = q} {b = b} first (inner {k = k} {c = c} {f = f} {ds = ds} {es = es} o s y x j z t) n l i names m =
    let none : ds ≡ [] = none_remaining ds (repeats k b c) (none_remaining (ds ++ repeats k b c) es n) in
    let below = reads_rows true s none (end_viable _ y.0) (known_row k) names.1 (agrees_start k) in
    let w = reads_rows false t (none_right (ds ++ repeats k b c) es n) l (known_after k i) names.2 (agrees_later q k i) in
    record {
      nodes = (ap may_end below.reaches ∙ y.0, below.binds, below.nodes, w.nodes);
      binds = both_true (is_item_bind_formed first k c) (are_item_binds_formed false f) (formed_item first q k c m (reads_viable t l) names.0) w.binds;
      reaches = w.reaches;
    }

-- without error nodes there is nothing to repair
pub repaired_none : (f : AnnotatedForest) → AreErrorFreeRows f → repaired f ≡ forget f
repaired_none blank r = refl
repaired_none (token k t f) r = ap (leaf_in k t.text) (repaired_none f r)
repaired_none (branch k c f) r = ap (λ x. node k x (repaired f)) (repaired_none c r.2) ∙ ap (node k (forget c)) (repaired_none f r.3)
repaired_none (fault n c f) r = absurd r

-- if the children of every node are a row of its kind, all nodes are complete
pub incomplete_none : (f : AnnotatedForest) → AreErrorFreeRows f → incomplete (forget f) ≡ 0
incomplete_none (token k t f) r = incomplete_none f r
incomplete_none (branch k c f) r =
    let one : half (is_row k (kinds_of (forget c))) ≡ 0 = ap half r.0 in
    let below : incomplete (forget c) ≡ 0 = incomplete_none c r.2 in
    let more : incomplete (forget f) ≡ 0 = incomplete_none f r.3 in
    omega (arith, one, below, more)
incomplete_none _ r = first_of (omega arith, assumption, cc)

-- without errors at the end of the text and without others there are no errors
none_in_all : (es : List Fault) → ended_count es ≡ 0 → others es ≡ [] → es ≡ []
none_in_all [] h k = refl
none_in_all (e ∷ es) h k = by_first (is_ended e) refl
  where
    by_first : (x : Bool) → is_ended e ≡ x → e ∷ es ≡ []
    by_first true i = let one : ended_count (e ∷ es) ≡ 1 + ended_count es = ap (λ x. (if x then 1 else 0) + ended_count es) i in absurd (omega (arith, h, one))
    by_first false i = absurd (not_nil (ap (λ x. if x then others es else e ∷ others es) (sym i) ∙ k))

-- if the children of every node are a row of its kind and nothing is reported, there is no error
rows_read : {p : SyntaxKind} {d n : ℕ} {q q' : Row} {b : AnnotatedForest} {us : List Token} {f : AnnotatedForest} {es : List Fault}
    → Reads p d n q q' b us f es → may_end q' ≡ true → IsKnown p q → ((p ≡ NODE_PATTERN) → ⊥) → AreErrorNodes p f → AreErrorFreeRows f
    → may_end (after_all q (kinds_of (forget f))) ≡ true → reports_behind b f ≡ [] → es ≡ []
rows_read {q = q} {f = f} {es = es} s w i not o r h n =
    let row : half (may_end (after_all q (kinds_of (repaired f)))) ≡ 0 = ap (λ x. half (may_end (after_all q (kinds_of x)))) (repaired_none f r) ∙ ap half h in
    let all : incomplete (repaired f) ≡ 0 = ap incomplete (repaired_none f r) ∙ incomplete_none f r in
    let counts = reads_counts q s w i i (simulates_self q) o in
    none_in_all es (elim (counts.none (omega (arith, row, all))) [ inl e ↦ e | inr e ↦ absurd (not e.0) ]) ((reads_errors s i).reports ∙ n)

-- a whole text without trivia has complete rows: the children of the root and of each node are rows of their kinds, and nothing is reported
pub record IsErrorFree (f : AnnotatedForest) : Type 0 where
  pub root : is_row NODE_ROOT (kinds_of (forget f)) ≡ true
  pub nodes : AreErrorFreeRows f
  pub silent : reports f ≡ []

-- a whole text has no errors exactly if this holds
pub root_rows : {f : AnnotatedForest} {es : List Fault} → ReadsRoot f es → (es ≡ []) ↔ IsErrorFree f
root_rows {f = f} {es = es} s = (there, λ w. rows_read s refl (known_row NODE_ROOT) (λ e. cc) (root_error_nodes s) w.nodes w.root w.silent)
  where
    there : es ≡ [] → IsErrorFree f
    there n =
        let w = reads_rows true s n refl (known_row NODE_ROOT) (are_named s) (agrees_start NODE_ROOT) in
        record { root = ap may_end w.reaches; nodes = w.nodes; silent = sym (reads_errors s (known_row NODE_ROOT)).reports ∙ ap others n }
