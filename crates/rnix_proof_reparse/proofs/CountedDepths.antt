-- A forest that is read without errors nests along its row at most as deep as by the kinds of its nodes.
use Rattle.std.proofs.Common.{◌≡◌, ℕ, suc, ◌≤◌, max, Bool, true, false, List, [], ◌++◌, refl, ap, sym, subst, arith, if◌then◌else◌, ◌&&◌}
use Rattle.std.specs.List.{list_all}
use Rattle.std.proofs.lemmas.Bool.{and_from}
use Rattle.rnix_kinds.specs.declared.kinds.SyntaxKind.{SyntaxKind}
use Rattle.rnix_kinds.specs.declared.kinds.SyntaxKind.TheVariants.{NODE_IDENT, NODE_PAT_ENTRY}
use Rattle.rnix_kinds.proofs.AllKinds.{all_kinds, implied}
use Rattle.rnix_green.specs.Forest.{Forest, node}
use Rattle.rnix_green.specs.Equality.{same_kind}
use Rattle.rnix_grammar.specs.AnnotatedForest.{Token, AnnotatedForest, blank, token, branch, fault, forget, tokens_in, leaf_kind}
use Rattle.rnix_grammar.specs.Fault.{Fault}
use Rattle.rnix_grammar.specs.Nest.{nest, nests, counts_no_child}
use Rattle.rnix_grammar.specs.Nesting.{depth_of}
use Rattle.rnix_grammar.specs.Reads.{Reads, end, leaf as item, inner, missing_part, wrong, second}
use Rattle.rnix_grammar.specs.Reports.{repeats}
use Rattle.rnix_grammar.specs.Rules.{Row, row, after, counts}
use Rattle.rnix_proof_lemmas.proofs.Basics.{true_is_not_false, not_nil, none_remaining, none_right, choice}
use Rattle.rnix_proof_lemmas.proofs.EveryKind.{only}
use Rattle.rnix_proof_lemmas.proofs.RowKinds.{has_row}
use Rattle.rnix_proof_lemmas.proofs.ReachableRows.{IsKnown, is_viable, every_known, known_row, known_after}
use Rattle.rnix_proof_lemmas.proofs.ViableRows.{reads_viable, end_viable, reads_row}
use Rattle.rnix_proof_completeness.proofs.PartReads.{depth_in}
use Rattle.rnix_proof_reparse.proofs.CarriedReadings.{no_second}
use Rattle.rnix_proof_reparse.proofs.ReplacedReadings.{nesting}

-- how deep a node and the forest after it nest, by kinds
nest_node : (p k : SyntaxKind) (c t : Forest) → nest p (node k c t) ≡ max (if nests p k then suc (depth_in k c) else depth_in k c) (nest p t)
nest_node p NODE_PAT_ENTRY (node j d e) t =
    ap (λ w. max (if w then suc (nest NODE_PAT_ENTRY e) else nest NODE_PAT_ENTRY e) (nest p t)) (sym (choice (λ w. w ≡ false) (counts_no_child p) refl refl))
nest_node p NODE_PAT_ENTRY _ t = refl
nest_node p _ c t = refl

-- what is known of the first node of a forest: a name contains no nodes, and the trees after it nest within their kinds
abbrev Head : SyntaxKind → Row → AnnotatedForest → Type 0
Head p q (branch j y g) = (is_viable (after q j) ≡ true) × (j ≡ NODE_IDENT → depth_of (row j) y ≡ 0) × (depth_of (after q j) g ≤ nest p (forget g))
Head p q (fault n y g) = ⊥
Head p q f = Unit {0}

-- a forest nests along its row at most as deep as by kinds, and a name's children not at all
record IsBounded (p : SyntaxKind) (q : Row) (f : AnnotatedForest) : Type 0 where
  whole : depth_of q f ≤ nest p (forget f)
  head : Head p q f
  name : p ≡ NODE_IDENT → depth_of q f ≡ 0

-- an entry of a pattern begins with its name
entry_name : (j : SyntaxKind) → is_viable (after (row NODE_PAT_ENTRY) j) ≡ true → j ≡ NODE_IDENT
entry_name = only (λ j. is_viable (after (row NODE_PAT_ENTRY) j)) NODE_IDENT refl

entry_bounded : (m n l : ℕ) → m ≡ 0 → n ≤ l → max m n ≤ l
entry_bounded m n l e h = omega (arith, e, h)

inside_bounded : (k : SyntaxKind) (c : AnnotatedForest) → depth_of (row k) c ≤ nest k (forget c) → Head k (row k) c → depth_of (row k) c ≤ depth_in k (forget c)
inside_bounded NODE_PAT_ENTRY (branch j y g) whole head =
    entry_bounded (depth_of (row j) y) (depth_of (after (row NODE_PAT_ENTRY) j) g) (nest NODE_PAT_ENTRY (forget g)) (head.1 (entry_name j head.0)) head.2
inside_bounded NODE_PAT_ENTRY (fault n y g) whole head = absurd head
inside_bounded NODE_PAT_ENTRY blank whole head = whole
inside_bounded NODE_PAT_ENTRY (token j t g) whole head = whole
inside_bounded _ c whole head = whole

-- a name has no nodes as children
abbrev has_no_nodes : SyntaxKind → Row → Bool
has_no_nodes i q = if same_kind NODE_IDENT i then list_all (λ k. if has_row k && is_viable (after q k) then false else true) all_kinds else true

never_named : (i : SyntaxKind) (w : Bool) → (if w then list_all (λ k. if has_row k && false then false else true) all_kinds else true) ≡ true
never_named i true = refl
never_named i false = refl

no_node : {A : Type 0} (q : Row) (k : SyntaxKind) → IsKnown NODE_IDENT q → has_row k ≡ true → is_viable (after q k) ≡ true → A
no_node q k known h v =
    absurd (true_is_not_false (sym (implied (λ k. has_row k && is_viable (after q k)) (λ k. false)
    (every_known has_no_nodes (λ i. never_named i (same_kind NODE_IDENT i)) refl NODE_IDENT q known) k (and_from (has_row k) (is_viable (after q k)) h v))))

node_bounded : (v w : Bool) (m n k l : ℕ) → (v ≡ true → w ≡ true) → m ≤ k → n ≤ l → max (if v then suc m else m) n ≤ max (if w then suc k else k) l
node_bounded true true m n k l i h j = omega (arith, h, j)
node_bounded true false m n k l i h j = absurd (true_is_not_false (sym (i refl)))
node_bounded false true m n k l i h j = omega (arith, h, j)
node_bounded false false m n k l i h j = omega (arith, h, j)

row_bounded : {p : SyntaxKind} {d n : ℕ} {q q' : Row} {b : AnnotatedForest} {us : List Token} {f : AnnotatedForest} {es : List Fault}
    → Reads p d n q q' b us f es → es ≡ [] → IsKnown p q → is_viable q' ≡ true → IsBounded p q f
row_bounded end z known v = record { whole = omega arith; head = tt; name = λ e. refl }
row_bounded (missing_part u t m o h) z known v = absurd (not_nil z)
row_bounded (wrong note ts x o y h) z known v = absurd (not_nil z)
row_bounded (second {c = x} {ds = ds} {es = es} hr over h) z known v = no_second ds (tokens_in x) es z
row_bounded {p} (item {t = t} x o h) z known v =
    let w = row_bounded h z (known_after (leaf_kind p t) known) v in
    record { whole = w.whole; head = tt; name = w.name }
row_bounded {p} {q = q} {b = b} (inner {k = k} {s = s} {c = x} {f = f} {ds = ds} {es = es} room hr over i o op h) z known v =
    let none : ds ++ repeats k b x ≡ [] = none_remaining (ds ++ repeats k b x) es z in
    let inside : IsBounded k (row k) x = row_bounded hr (none_remaining ds (repeats k b x) none) (known_row k) (end_viable s over.0) in
    let behind : IsBounded p (after q k) f = row_bounded h (none_right (ds ++ repeats k b x) es z) (known_after k known) v in
    let own : has_row k ≡ true = reads_row hr over.0 in
    let more : is_viable (after q k) ≡ true = reads_viable h v in
    record {
      whole = subst (λ m. depth_of q (branch k x f) ≤ m) (sym (nest_node p k (forget x) (forget f)))
          (node_bounded (counts q) (nests p k) (depth_of (row k) x) (depth_of (after q k) f) (depth_in k (forget x)) (nest p (forget f))
          (nesting q k known own more) (inside_bounded k x inside.whole inside.head) behind.whole);
      head = (more, inside.name, behind.whole);
      name = λ e. no_node q k (subst (λ (i : SyntaxKind). IsKnown i q) e known) own more;
    }

-- this holds for each forest that is read without errors
pub depth_bounded : {p : SyntaxKind} {d n : ℕ} {q q' : Row} {b : AnnotatedForest} {us : List Token} {f : AnnotatedForest} {es : List Fault}
    → Reads p d n q q' b us f es → es ≡ [] → IsKnown p q → is_viable q' ≡ true → depth_of q f ≤ nest p (forget f)
depth_bounded r z known v = (row_bounded r z known v).whole
