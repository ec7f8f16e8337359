-- Operations, selections and tests for attributes are read as operands, if smaller forests and trees are.
use Rattle.std.proofs.Common.{◌≡◌, ℕ, Bool, true, false, List, [], ◌∷◌, ◌++◌, Some, refl, ap, sym, ◌∙◌, subst, append-nil, arith}
use Rattle.rnix_kinds.{proofs.AllKinds.implied, specs.declared.kinds.SyntaxKind.{SyntaxKind, TheVariants.{TOKEN_ADD, TOKEN_DOT, TOKEN_QUESTION, NODE_BIN_OP}}}
use Rattle.rnix_kinds.specs.declared.kinds.SyntaxKind.TheVariants.{NODE_HAS_ATTR, NODE_LITERAL, NODE_SELECT}
use Rattle.rnix_grammar.specs.declared.{position.Position.Position, rules.Part.TheVariants.{Binary, Suffix}, slot_table.TheConstants.{HAS_ATTR, SELECT}}
use Rattle.rnix_grammar.specs.{Fault.Fault, Actions.{continue_action}, Levels.{binding_power, right_of, max_bp_of}, AnnotatedForest.{Token, Stray}}
use Rattle.rnix_grammar.specs.AnnotatedForest.{AnnotatedForest, blank, branch, token, ◌⊕◌, one_token, one_branch, one_fault, row_of, tokens_in, leaf_kind}
use Rattle.rnix_grammar.specs.{AnnotatedForest.end_from, Reports.report, NodeClasses.{is_atom, is_questioned, is_operand, is_infix, is_expression}}
use Rattle.rnix_grammar.specs.{TreeLevels.row_level, Operands.{follows, first_tree}, Rules.{IsFollowed, Row, after, done, only as row_if, row as row_of_kind}}
use Rattle.{rnix_grammar.specs.{Rules.◌·◌, Reads.{deeper, end}}, rnix_proof_lemmas.specs.{Machine.{Node, Operand, machine, opened}, SlotRows.remaining_at}}
use Rattle.rnix_proof_lemmas.proofs.{KindsOfNodes.{unreported, is_error, keeps_kind}, EveryKind.only, AnnotatedForestLemmas.⊕-assoc, FirstTrees.IsSingle}
use Rattle.rnix_proof_lemmas.proofs.{FirstTrees.{a_node, an_error, first_in, single_operator}, FollowLemmas.{FollowedTo, followed_infix, followed_question}}
use Rattle.rnix_proof_lemmas.proofs.{FollowLemmas.{followed_selection, follows_token}, RestAt.rest_at, ReachableRows.is_viable}
use Rattle.rnix_proof_uniqueness.proofs.{StepReads.{runs_to, runs_from, ReadsTree}, ViableReadings.viable_only, OneAction.{is_at, is_closed, is_inner}}
use Rattle.rnix_proof_uniqueness.proofs.ReadingHeights.{Complete, AllRows, Trees, KindReads, Front, by_leaf, by_stray, by_node, front_of, complete_to, is_firm}
use Rattle.rnix_proof_uniqueness.proofs.{ReadingHeights.{has_no_node_next, Item, item_next}, RowTrees.{ReadOn, read_on, operand_read}, OperandBegins.continued}
use Rattle.rnix_proof_uniqueness.proofs.FunctionRows.{stray_reads}
use Rattle.rnix_grammar.specs.declared.position.Position.TheVariants as p
use Rattle.rnix_grammar.specs.declared.action.Action.TheVariants as a

-- the row of a node of the kind begins with a tree, of a kind that passes the test
pub record BeginsWithTree (k : SyntaxKind) (q : Row) (test : SyntaxKind → Bool) : Type 0 where
  pub goes : (j : SyntaxKind) → after (row_of_kind k) j ≡ row_if (test j) q
  pub fitting : (j : SyntaxKind) → test j ≡ true → is_expression j ≡ true
  pub deep : (d : ℕ) → deeper (row_of_kind k) d ≡ d

-- the steps read a node that begins with a tree, if they read the rest of its row after that tree
pub leading : {m : ℕ} {k : SyntaxKind} {d n : ℕ} {q : Row} {us : List Token} {test : SyntaxKind → Bool} {c : AnnotatedForest} {es : List Fault} → Trees m
    → BeginsWithTree k q test
    → ((j : SyntaxKind) (t : Token) (f : AnnotatedForest) (fs : List Fault) → Complete m k d t.end q (one_token j t) us f fs → ⊥)
    → ((zs : List Token) (x f : AnnotatedForest) (es ds : List Fault) → IsSingle x → ReadsTree d n zs x (tokens_in f ++ us) es
    → Complete m k d (end_from n zs) q x us f ds
    → ReadsTree d n (zs ++ tokens_in f) (one_branch k (x ⊕ f)) us (es ++ ds))
    → Front m k d n (row_of_kind k) blank us c es → ReadsTree d n (tokens_in c) (one_branch k c) us es
leading {m} {k} {d} {n} {q} {us} {test} trees w dead more r = by r
  where
    passes : (j : SyntaxKind) → is_viable (after (row_of_kind k) j) ≡ true → test j ≡ true
    passes j l = viable_only (test j) q (ap is_viable (sym (w.goes j)) ∙ l)

    behind : (j : SyntaxKind) → is_viable (after (row_of_kind k) j) ≡ true → after (row_of_kind k) j ≡ q
    behind j l = w.goes j ∙ ap (λ z. row_if z q) (passes j l)

    by : {c : AnnotatedForest} {es : List Fault} → Front m k d n (row_of_kind k) blank us c es → ReadsTree d n (tokens_in c) (one_branch k c) us es
    by (by_leaf {k = j} {t = t} {f = f} {es = es} e x l r) = absurd (dead j t f es (complete_to (behind j l) refl r))
    by (by_stray {t = t} {f = f} {es = es} o x y l r) =
        more (t ∷ []) (one_fault Stray (row_of (t ∷ []))) f (report Stray (t ∷ []) ∷ []) es an_error (stray_reads t d n (tokens_in f ++ us))
        (complete_to (behind NODE_LITERAL l) refl r)
    by (by_node {k = j} {c = c} {f = f} {ds = ds} {es = es} r y x i l r') =
        let fit : is_expression j ≡ true = w.fitting j (passes j l) in
        let tree = trees j d n (tokens_in f ++ us) c ds (subst (λ d. Complete m j d n (row_of_kind j) blank (tokens_in f ++ us) c ds) (w.deep d) r) fit in
        subst (λ v. ReadsTree d n (tokens_in c ++ tokens_in f) (one_branch k (branch j c f)) us (v ++ es))
        (sym (ap (λ v. ds ++ v) (unreported j blank c fit) ∙ append-nil ds))
        (more (tokens_in c) (one_branch j c) f ds es a_node tree (complete_to (behind j l) refl r'))

-- the row of a node of the kind begins with a tree and an item, and then continues at a position
record Joins (k : SyntaxKind) (q : Row) (test : SyntaxKind → Bool) (z : SyntaxKind → Position) (max_bp : SyntaxKind → ℕ) : Type 0 where
  begins : BeginsWithTree k q test
  known : (is_error k ≡ false) × (is_inner k ≡ true) × (is_closed k ≡ true) × (has_no_node_next q ≡ true) × (is_firm q ≡ true)
  follow : (i : SyntaxKind) (x : AnnotatedForest) → IsFollowed q x (Some i) → follows i x ≡ true
  goes : (i : SyntaxKind) → is_viable (after q i) ≡ true → after q i ≡ rest_at (z i)
  in_row_of : (i : SyntaxKind) → is_at k (z i) ≡ true
  action : (i : SyntaxKind) → is_viable (after q i) ≡ true → continue_action i ≡ a.Wrap k (z i) (max_bp i)
  level : (i : SyntaxKind) (x : AnnotatedForest) (t : Token) (f : AnnotatedForest) → IsSingle x → is_viable (after q i) ≡ true
      → row_level (one_branch k (x ⊕ token i t f)) ≡ binding_power i
  followed : (i : SyntaxKind) (x : AnnotatedForest) → is_viable (after q i) ≡ true → row_level (one_branch k x) ≡ binding_power i
      → FollowedTo (max_bp i) (one_branch k x)
  first : (x : AnnotatedForest) → first_tree (one_branch k x) ≡ first_tree x

-- the steps read a tree, the item that continues it, and the rest of the node's row
joined : {k : SyntaxKind} {q : Row} {test : SyntaxKind → Bool} {z : SyntaxKind → Position} {max_bp : SyntaxKind
    → ℕ} (w : Joins k q test z max_bp) (zs : List Token) (x : AnnotatedForest) (t : Token) (f : AnnotatedForest)
    (d n : ℕ) (us : List Token) (es ds : List Fault) → IsSingle x → is_viable (after q t.kind) ≡ true → ReadsTree d n zs x (t ∷ (tokens_in f ++ us)) es
    → follows t.kind x ≡ true
    → ReadOn k d t.end (z t.kind) (x ⊕ one_token t.kind t) us f ds → ReadsTree d n (zs ++ (t ∷ tokens_in f)) (one_branch k (x ⊕ token t.kind t f)) us (es ++ ds)
joined {k = k} {z = z} {max_bp = max_bp} w zs x t f d n us es ds one is_viable tree follow row =
    continued zs (t ∷ tokens_in f) x v t.kind (a.Wrap k (z t.kind) (max_bp t.kind)) (max_bp t.kind) d n us es ds follow refl (w.action t.kind is_viable)
    (w.first (x ⊕ token t.kind t f) ∙ first_in x (token t.kind t f) one) (omega (arith, tight)) (w.followed t.kind (x ⊕ token t.kind t f) is_viable tight) tree
    (λ level other g fs gs.
    runs_from
    (ap (λ q. machine (opened (Node k) (z t.kind) d (x ⊕ one_token q t) ∷ (opened Operand (p.AfterOperand level (max_bp t.kind)) d blank ∷ (g ∷ fs)))
    (tokens_in f ++ us) t.end gs) (keeps_kind k t.kind w.known.0))
    (runs_to (ap (λ q. machine (opened Operand (p.AfterOperand level (max_bp t.kind)) d (one_branch k q) ∷ (g ∷ fs)) us (end_from t.end (tokens_in f))
    (gs ++ ds)) (⊕-assoc x (one_token t.kind t) f))
    (operand_read row w.known.1 w.known.2 (p.AfterOperand level (max_bp t.kind)) d (g ∷ fs) gs)))
  where
    v : AnnotatedForest
    v = one_branch k (x ⊕ token t.kind t f)

    tight : row_level v ≡ binding_power t.kind
    tight = w.level t.kind x t f one is_viable

-- so the steps read such a node
joined_reads : (m : ℕ) → AllRows m → Trees m → (k : SyntaxKind) (q : Row) (test : SyntaxKind → Bool) (z : SyntaxKind → Position) (max_bp : SyntaxKind
    → ℕ) → Joins k q test z max_bp → KindReads m k
joined_reads m rows trees k q test z max_bp w d n us c es r = leading trees w.begins lone more r
  where
    next : {n : ℕ} {b f : AnnotatedForest} {es : List Fault} → Complete m k d n q b us f es → Item m k d q b us f es
    next r = item_next w.known.3 (front_of refl r w.known.4)

    lone : (j : SyntaxKind) (t : Token) (f : AnnotatedForest) (fs : List Fault) → Complete m k d t.end q (one_token j t) us f fs → ⊥
    lone j t f fs r = let v = next r in follows_token (leaf_kind k v.item) j t blank (w.follow (leaf_kind k v.item) (one_token j t) v.followed)

    more : (zs : List Token) (x f : AnnotatedForest) (es ds : List Fault) → IsSingle x → ReadsTree d n zs x (tokens_in f ++ us) es
        → Complete m k d (end_from n zs) q x us f ds
        → ReadsTree d n (zs ++ tokens_in f) (one_branch k (x ⊕ f)) us (es ++ ds)
    more zs x f es ds one tree r =
        let v = next r in
        let t : Token = v.item in
        let e : leaf_kind k t ≡ t.kind = keeps_kind k t.kind w.known.0 in
        let is : f ≡ token t.kind t v.more = v.is ∙ ap (λ i. token i t v.more) e in
        let alive : is_viable (after q t.kind) ≡ true = ap (λ i. is_viable (after q i)) (sym e) ∙ v.alive in
        let rest : Complete m k d t.end (rest_at (z t.kind)) (x ⊕ one_token t.kind t) us v.more ds =
        complete_to (ap (after q) e ∙ w.goes t.kind alive) (ap (λ i. x ⊕ one_token i t) e) v.rest in
        subst (λ (g : AnnotatedForest). ReadsTree d n (zs ++ tokens_in g) (one_branch k (x ⊕ g)) us (es ++ ds)) (sym is)
        (joined w zs x t v.more d n us es ds one alive (subst (λ (g : AnnotatedForest). ReadsTree d n zs x (tokens_in g ++ us) es) is tree)
        (ap (λ i. follows i x) (sym e) ∙ w.follow (leaf_kind k t) x v.followed) (read_on rows (z t.kind) (w.in_row_of t.kind) rest))

-- a binary operator continues an operand by making it the first child of a NODE_BIN_OP
follow_infix : (i : SyntaxKind) → is_infix i ≡ true → continue_action i ≡ a.Wrap NODE_BIN_OP (p.Right (right_of i)) (max_bp_of i)
follow_infix TOKEN_ADD h = refl
follow_infix _ h = cc

-- the steps read a binary operation
pub binary_reads : (m : ℕ) → AllRows m → Trees m → KindReads m NODE_BIN_OP
binary_reads m rows trees =
    joined_reads m rows trees NODE_BIN_OP (Binary · done) is_operand (λ i. p.Right (right_of i)) max_bp_of (record {
      begins = record { goes = λ j. refl; fitting = implied is_operand is_expression refl; deep = λ d. refl };
      known = (refl, refl, refl, refl, refl);
      follow = λ i x h. h;
      goes = λ i l. ap (λ w. row_if w (rest_at (p.Right (right_of i)))) (operates i l);
      in_row_of = λ i. refl;
      action = λ i l. follow_infix i (operates i l);
      level = λ i x t f one l. ap binding_power (single_operator x f i t one);
      followed = λ i x l e. followed_infix i (operates i l) (one_branch NODE_BIN_OP x) e refl;
      first = λ x. refl;
    })
  where
    operates : (i : SyntaxKind) → is_viable (after (Binary · done) i) ≡ true → is_infix i ≡ true
    operates i l = viable_only (is_infix i) (rest_at (p.Right (right_of i))) l

-- the steps read a test for an attribute
pub question_reads : (m : ℕ) → AllRows m → Trees m → KindReads m NODE_HAS_ATTR
question_reads m rows trees =
    joined_reads m rows trees NODE_HAS_ATTR (Suffix TOKEN_QUESTION · remaining_at HAS_ATTR) is_questioned (λ i. p.InRow HAS_ATTR) (λ i. 13) (record {
      begins = record { goes = λ j. refl; fitting = implied is_questioned is_expression refl; deep = λ d. refl };
      known = (refl, refl, refl, refl, refl);
      follow = λ i x h. h;
      goes = λ i l. ap (after (Suffix TOKEN_QUESTION · remaining_at HAS_ATTR)) (question i l);
      in_row_of = λ i. refl;
      action = λ i l. ap continue_action (question i l);
      level = λ i x t f one l. sym (ap binding_power (question i l));
      followed = λ i x l e. followed_question (one_branch NODE_HAS_ATTR x) refl refl;
      first = λ x. refl;
    })
  where
    question : (i : SyntaxKind) → is_viable (after (Suffix TOKEN_QUESTION · remaining_at HAS_ATTR) i) ≡ true → i ≡ TOKEN_QUESTION
    question i l = only (λ j. is_viable (after (Suffix TOKEN_QUESTION · remaining_at HAS_ATTR) j)) TOKEN_QUESTION refl i l

-- the steps read a selection
pub selected_reads : (m : ℕ) → AllRows m → Trees m → KindReads m NODE_SELECT
selected_reads m rows trees =
    joined_reads m rows trees NODE_SELECT (Suffix TOKEN_DOT · remaining_at SELECT) is_atom (λ i. p.InRow SELECT) (λ i. 15) (record {
      begins = record { goes = λ j. refl; fitting = implied is_atom is_expression refl; deep = λ d. refl };
      known = (refl, refl, refl, refl, refl);
      follow = λ i x h. h;
      goes = λ i l. ap (after (Suffix TOKEN_DOT · remaining_at SELECT)) (dot i l);
      in_row_of = λ i. refl;
      action = λ i l. ap continue_action (dot i l);
      level = λ i x t f one l. sym (ap binding_power (dot i l));
      followed = λ i x l e. followed_selection (one_branch NODE_SELECT x) refl refl;
      first = λ x. refl;
    })
  where
    dot : (i : SyntaxKind) → is_viable (after (Suffix TOKEN_DOT · remaining_at SELECT) i) ≡ true → i ≡ TOKEN_DOT
    dot i l = only (λ j. is_viable (after (Suffix TOKEN_DOT · remaining_at SELECT) j)) TOKEN_DOT refl i l
