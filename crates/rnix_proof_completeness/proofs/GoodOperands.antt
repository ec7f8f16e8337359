-- Expressions of the grammar as operands: how tightly they bind, what may follow them, how they begin, and where they may be.
use Rattle.std.{specs.List.list_all, proofs.Common.{◌≡◌, ℕ, zero, suc, Bool, true, false, List, [], ◌∷◌, ◌++◌, Option, Some, None, refl, ap, sym, ◌∙◌, subst, arith}}
use Rattle.std.proofs.{Common.{◌≤◌, ◌+◌, ◌&&◌, ◌||◌, if◌then◌else◌, append_assoc, nat_le}, lemmas.Bool.{and_parts, Decides.nat_tests}}
use Rattle.rnix_kinds.specs.declared.kinds.SyntaxKind.{SyntaxKind, TheVariants.{TOKEN_DOT, TOKEN_IDENT, TOKEN_LET}}
use Rattle.rnix_kinds.specs.declared.kinds.SyntaxKind.TheVariants.{NODE_ERROR, NODE_IDENT, NODE_PAREN}
use Rattle.rnix_kinds.{specs.SyntaxKind.is_fn_arg, proofs.AllKinds.{all_kinds, implied}}
use Rattle.rnix_green.specs.{Equality.same_kind, Forest.{Forest, empty, leaf, node}}
use Rattle.rnix_grammar.specs.declared.rules.Part.TheVariants.{Operand, Many, Argument}
use Rattle.rnix_grammar.specs.AnnotatedForest.{Token, AnnotatedForest, blank, token, branch, ◌⊕◌, one_branch, tokens_in, head_kind}
use Rattle.rnix_grammar.specs.{OperandStarts.{first_kind, kind_if, second_kind}, FirstKinds.{IsOperandOf, BeginsAs}, Yield.kind_of_token, Reports.repeats, Nest.{nest, counts_no_child}, Tables.depth_limit}
use Rattle.rnix_grammar.specs.{Levels.{binding_power, left_of}, TokenKinds.{is_dot, is_or, is_question}, Operands.{first_tree, follows, is_continued}}
use Rattle.rnix_grammar.specs.{TreeLevels.{level_of, row_level, is_atom_row, is_or_row}, NodeClasses.{is_atom, is_expression, is_infix, fits}}
use Rattle.rnix_grammar.specs.Rules.{Row, done, ◌·◌, only, after, IsExpected, is_first_expected, IsFollowed}
use Rattle.rnix_proof_lemmas.proofs.{Basics.{true_is_not_false, not_if}, EveryKind.whenever_both, LevelLemmas.{at_most, at_most_true, atom_fits, binding_power_max, fits_looser}}
use Rattle.rnix_proof_lemmas.proofs.{KindsOfNodes.{fits_expression, unreported}, PlainTables.{binds_at_most, below, is_bound}}
use Rattle.rnix_proof_lemmas.proofs.EachBeginning.{highest, kind_up_to, first_up_to}
use Rattle.rnix_proof_completeness.proofs.OverTokens.{Over, over_leaf, over_node, stands_so, Opens, opened_so}
use Rattle.rnix_proof_completeness.proofs.PartReads.{Follow, Before, depth_in, room, Rest, Any, Node, Next, Placed, node_on, is_part, part_so, uncounted}

-- the tokens that continue the expression before them, and the level that this expression must have
abbrev pub takes_left : SyntaxKind → Bool
takes_left i = is_infix i || (is_question i || is_fn_arg i)

abbrev pub operand_level : SyntaxKind → ℕ
operand_level i = if is_infix i then left_of i else (if is_question i then 13 else 15)

-- anything looser than a level may follow it, and so may each token that continues an expression of the level
abbrev pub agree : ℕ → ℕ → Bool
agree l h = nat_le l (suc h) && list_all (λ i. if takes_left i then (if nat_le (operand_level i) l then binds_at_most h (Some i) else true) else true) all_kinds

-- a token that takes its left operand at a level continues each tree of that level
pub follows_left : (i : SyntaxKind) (x : AnnotatedForest) → takes_left i ≡ true → nat_le (operand_level i) (row_level x) ≡ true → follows i x ≡ true
follows_left i x h e = by (is_infix i) (is_question i) (is_fn_arg i) h e
  where
    by : (u v w : Bool) → (u || (v || w)) ≡ true → nat_le (if u then left_of i else (if v then 13 else 15)) (row_level x) ≡ true
        → (if u then nat_le (left_of i) (row_level x)
        else (if v then nat_le 13 (row_level x) else (if w then nat_le 15 (row_level x) else ((is_dot i || is_or i) && is_atom_row x)))) ≡ true
    by true v w h e = e
    by false true w h e = e
    by false false true h e = e
    by false false false h e = absurd (true_is_not_false (sym h))

-- what may follow a level may follow a tighter one
pub binds_at_most_more : (m n : ℕ) (next : Option SyntaxKind) → m ≤ n → binds_at_most m next ≡ true → binds_at_most n next ≡ true
binds_at_most_more m n None l h = refl
binds_at_most_more m n (Some k) l h = by (is_bound k) h
  where
    by : (w : Bool) → (if w then false else nat_le (binding_power k) m) ≡ true → (if w then false else nat_le (binding_power k) n) ≡ true
    by true e = absurd (cc)
    by false e = let o = at_most (binding_power k) m e in at_most_true (binding_power k) n (omega (arith, l, o))

-- what may follow some level does not make a longer name or path
pub wide : (m : ℕ) (next : Option SyntaxKind) → binds_at_most m next ≡ true → binds_at_most 16 next ≡ true
wide m None h = refl
wide m (Some k) h = by (is_bound k) h
  where
    by : (w : Bool) → (if w then false else nat_le (binding_power k) m) ≡ true → (if w then false else nat_le (binding_power k) 16) ≡ true
    by true e = absurd (cc)
    by false e = at_most_true (binding_power k) 16 (binding_power_max k)

-- kinds that are not those of error nodes
abbrev pub is_known : SyntaxKind → Bool
is_known NODE_ERROR = false
is_known k = true

-- an operand of a level begins with the tree that its first three items determine, and this tree is no error node
abbrev pub Begun : ℕ → AnnotatedForest → List Token → Type 0
Begun l x [] = ⊥
Begun l x (t ∷ ts) = (first_kind l t.kind t.text (head_kind ts) (second_kind ts) ≡ first_tree x) × (is_known (first_tree x) ≡ true)

-- the same items begin the same tree at each looser level
lower : (n l : ℕ) (o : Option ℕ) (k : SyntaxKind) → n ≤ l → is_known (kind_up_to o l k) ≡ true → kind_up_to o n k ≡ kind_up_to o l k
lower n l None k m h = refl
lower n l (Some top) k m h = by (nat_le n top) (nat_le l top) (λ e. grind (arith, nat_tests, e, m)) h
  where
    by : (v w : Bool) → (w ≡ true → v ≡ true) → is_known (kind_if w k) ≡ true → kind_if v k ≡ kind_if w k
    by true true m h = refl
    by false true m h = absurd (true_is_not_false (sym (m refl)))
    by v false m h = absurd (true_is_not_false (sym h))

first_lower : (n l : ℕ) (i : SyntaxKind) (text : List ℕ) (second third : Option SyntaxKind) → n ≤ l → is_known (first_kind l i text second third) ≡ true
    → first_kind n i text second third ≡ first_kind l i text second third
first_lower n l i text second third m h =
    let at_l = first_up_to l i text second third in
    first_up_to n i text second third ∙ lower n l (highest i) (first_kind 0 i text second third) m (ap is_known (sym at_l) ∙ h) ∙ sym at_l

pub begun_lower : (n l : ℕ) (x : AnnotatedForest) (ts : List Token) → n ≤ l → Begun l x ts → Begun n x ts
begun_lower n l x [] m w = w
begun_lower n l x (t ∷ ts) m w = (first_lower n l t.kind t.text (head_kind ts) (second_kind ts) m (ap is_known w.0 ∙ w.1) ∙ w.0, w.1)

-- an operand begins as another one does whose first tree is the same
begun_same : (l : ℕ) (x y : AnnotatedForest) (ts : List Token) → first_tree x ≡ first_tree y → Begun l x ts → Begun l y ts
begun_same l x y [] e w = w
begun_same l x y (t ∷ ts) e w = (w.0 ∙ e, ap is_known (sym e) ∙ w.1)

begun_as : (l : ℕ) (x : AnnotatedForest) (ts : List Token) → Begun l x ts → BeginsAs l x ts
begun_as l x [] w = w
begun_as l x (t ∷ ts) w = w.0

begun_opens : (test : SyntaxKind → Bool) (l : ℕ) (x : AnnotatedForest) (ts : List Token)
    → ((i : SyntaxKind) (text : List ℕ) (second third : Option SyntaxKind) → is_known (first_kind l i text second third) ≡ true → test i ≡ true)
    → Begun l x ts → Opens test ts
begun_opens test l x [] h w = w
begun_opens test l x (t ∷ ts) h w = h t.kind t.text (head_kind ts) (second_kind ts) (ap is_known w.0 ∙ w.1)

-- the tokens with which an expression may begin
abbrev pub is_start : SyntaxKind → Bool
is_start i = is_known (first_kind 0 i [] None None)

start_is : (i : SyntaxKind) (text : List ℕ) (second third : Option SyntaxKind) → is_known (first_kind 0 i text second third) ≡ true → is_start i ≡ true
start_is TOKEN_LET text second third h = refl
start_is _ text second third h = cc

argument_is : (i : SyntaxKind) (text : List ℕ) (second third : Option SyntaxKind) → is_known (first_kind 16 i text second third) ≡ true → is_fn_arg i ≡ true
argument_is TOKEN_IDENT text second third h = refl
argument_is _ text second third h = cc

-- An expression of the grammar at a level: how tightly it binds, the tightest operators that may follow it, its row, and how it begins.
pub record Good (n : ℕ) (k : SyntaxKind) (c : Forest) : Type 0 where
  pub level : ℕ
  pub max_bp : ℕ
  pub min_bp : n ≤ level
  pub agrees : agree level max_bp ≡ true
  pub fit : fits n k ≡ true
  pub node : Node (binds_at_most max_bp) k c
  pub tight : (b : AnnotatedForest) → Over c b → nat_le level (level_of k b) ≡ true
  pub begins : (b f : AnnotatedForest) (us : List Token) → Over c b → binds_at_most 16 (head_kind us) ≡ true → Begun level (branch k b f) (tokens_in b ++ us)

-- an expression at a level is one at each looser level
pub good_looser : {m n : ℕ} {k : SyntaxKind} {c : Forest} → n ≤ m → Good m k c → Good n k c
good_looser {m} {n} {k} l g = record {
  level = g.level;
  max_bp = g.max_bp;
  min_bp = omega (arith, l, g.min_bp);
  agrees = g.agrees;
  fit = fits_looser n m k l g.fit;
  node = g.node;
  tight = g.tight;
  begins = g.begins;
}

-- what may follow an expression may be restricted further
pub node_looser : {N F : Follow} {k : SyntaxKind} {c : Forest} → ((o : Option SyntaxKind) → F o ≡ true → N o ≡ true) → Node N k c → Node F k c
node_looser h w = record { reads = λ d n b us o j a m z. w.reads d n b us o j a m (h (head_kind us) z) }

-- an expression may be followed by anything that is looser than its level
pub good_node : {n : ℕ} {k : SyntaxKind} {c : Forest} → Good n k c → Node (binds_at_most (below n)) k c
good_node {n} g = node_looser (λ o z. binds_at_most_more (below n) g.max_bp o (by n g.min_bp
    (at_most g.level (suc g.max_bp) (and_parts (nat_le g.level (suc g.max_bp)) _ g.agrees).0)) z) g.node
  where
    by : (n : ℕ) → n ≤ g.level → g.level ≤ suc g.max_bp → below n ≤ g.max_bp
    by zero l e = omega arith
    by (suc n) l e = omega (arith, l, e)

-- an expression may precede a token that takes it as its left operand
pub good_before : {n : ℕ} {k : SyntaxKind} {c : Forest} (g : Good n k c) (i : SyntaxKind) → takes_left i ≡ true → operand_level i ≤ n
    → binds_at_most g.max_bp (Some i) ≡ true
good_before {n} g i t l = whenever_both takes_left (λ j. nat_le (operand_level j) g.level) (λ j. binds_at_most g.max_bp (Some j))
    (and_parts (nat_le g.level (suc g.max_bp)) _ g.agrees).1 i t (at_most_true (operand_level i) g.level (omega (arith, l, g.min_bp)))

-- that token continues the expression
pub good_follows : {n : ℕ} {k : SyntaxKind} {c : Forest} → Good n k c → (i : SyntaxKind) → takes_left i ≡ true → operand_level i ≤ n → (b : AnnotatedForest)
    → Over c b
    → follows i (one_branch k b) ≡ true
good_follows {n} {k} g i t l b o =
    let e : g.level ≤ level_of k b = at_most g.level (level_of k b) (g.tight b o) in
    follows_left i (one_branch k b) t (at_most_true (operand_level i) (level_of k b) (omega (arith, l, g.min_bp, e)))

both_no : (v w : Bool) → (v ≡ true → w ≡ false) → (v && w) ≡ false
both_no true w h = h refl
both_no false w h = refl

-- a token that continues a tree has a binding power
follows_binding_power : (i : SyntaxKind) (x : AnnotatedForest) → follows i x ≡ true → nat_le 1 (binding_power i) ≡ true
follows_binding_power TOKEN_DOT x h = refl
follows_binding_power _ x h = cc

-- if only looser operators follow, none of them continues an operand
stops_here : (level : ℕ) (x : AnnotatedForest) (ts : List Token) → binds_at_most (below level) (head_kind ts) ≡ true → is_continued level x ts ≡ false
stops_here level x [] h = refl
stops_here level x (t ∷ ts) h = both_no (follows t.kind x) (nat_le level (binding_power t.kind))
    (λ e. by level (is_bound t.kind) h (nat_le level (binding_power t.kind)) refl (at_most 1 (binding_power t.kind) (follows_binding_power t.kind x e)))
  where
    by : (n : ℕ) (u : Bool) → (if u then false else nat_le (binding_power t.kind) (below n)) ≡ true → (w : Bool) → nat_le n (binding_power t.kind) ≡ w
        → 1 ≤ binding_power t.kind → w ≡ false
    by n true h w e l = absurd (true_is_not_false (sym h))
    by n false h false e l = refl
    by zero false h true e l = absurd (grind (arith, nat_tests, h, l))
    by (suc n) false h true e l = absurd (grind (arith, nat_tests, h, e))

-- an expression is an operand of its level before anything looser
pub operand_at : {n : ℕ} {k : SyntaxKind} {c : Forest} → Good n k c → (b : AnnotatedForest) (us : List Token) → Over c b
    → binds_at_most (below n) (head_kind us) ≡ true
    → IsOperandOf (Some n) (one_branch k b) us
operand_at {n} {k} g b us o z =
    let e : g.level ≤ level_of k b = at_most g.level (level_of k b) (g.tight b o) in (
      omega (arith, e, g.min_bp),
      subst (λ ts. BeginsAs n (one_branch k b) ts) (sym (append_assoc (tokens_in b) [] us))
          (begun_as n (one_branch k b) (tokens_in b ++ us) (begun_lower n g.level (one_branch k b) (tokens_in b ++ us) g.min_bp
          (g.begins b blank us o (wide (below n) (head_kind us) z)))),
      stops_here n (one_branch k b) us z,
    )

-- an expression begins with a token with which expressions begin
pub good_opens : {n : ℕ} {k : SyntaxKind} {c : Forest} → Good n k c → (b : AnnotatedForest) (us : List Token) → Over c b
    → binds_at_most 16 (head_kind us) ≡ true
    → Opens is_start (tokens_in b ++ us)
good_opens {k = k} g b us o z = begun_opens is_start 0 (one_branch k b) (tokens_in b ++ us) start_is
    (begun_lower 0 g.level (one_branch k b) (tokens_in b ++ us) (omega arith) (g.begins b blank us o z))

-- an argument begins with a token with which arguments begin
pub argument_opens : {k : SyntaxKind} {c : Forest} → Good 16 k c → (b : AnnotatedForest) (us : List Token) → Over c b → binds_at_most 16 (head_kind us) ≡ true
    → Opens is_fn_arg (tokens_in b ++ us)
argument_opens {k} g b us o z = begun_opens is_fn_arg 16 (one_branch k b) (tokens_in b ++ us) argument_is
    (begun_lower 16 g.level (one_branch k b) (tokens_in b ++ us) g.min_bp (g.begins b blank us o z))

opened_head : (test : SyntaxKind → Bool) (N : Follow) → ((i : SyntaxKind) → test i ≡ true → N (Some i) ≡ true) → (ts : List Token) → Opens test ts
    → N (head_kind ts) ≡ true
opened_head test N h [] o = absurd o
opened_head test N h (t ∷ ts) o = h t.kind o

-- a node begins with a token that passes a test, so what precedes it may require that
pub next_node : {N M F : Follow} {k : SyntaxKind} {c t : Forest} (test : SyntaxKind → Bool) → ((i : SyntaxKind) → test i ≡ true → N (Some i) ≡ true)
    → ((b : AnnotatedForest) (us : List Token) → Over c b → M (head_kind us) ≡ true → Opens test (tokens_in b ++ us)) → Next M F t → Next N F (node k c t)
next_node {N} {M} {F} {k} {c} {t} test h opens behind = record { next = first }
  where
    first : (f : AnnotatedForest) (us : List Token) → Over (node k c t) f → F (head_kind us) ≡ true → N (head_kind (tokens_in f ++ us)) ≡ true
    first f us (over_node {b = b} {f = e} o v) z = ap (λ ts. N (head_kind ts)) (append_assoc (tokens_in b) (tokens_in e) us)
        ∙ opened_head test N h (tokens_in b ++ (tokens_in e ++ us)) (opens b (tokens_in e ++ us) o (behind.next e us v z))

-- if a forest is within the limit, so is the operand with which it begins
pub counted_fits : (w : Bool) (p k : SyntaxKind) (c t : Forest) (d : ℕ) → counts_no_child p ≡ (if w then false else true) → is_expression k ≡ true
    → d + nest p (node k c t) ≤ depth_limit
    → (w ≡ true → suc d ≤ depth_limit) × ((if w then suc d else d) + depth_in k c ≤ depth_limit)
counted_fits true p k c t d f e m =
    let x : suc d + depth_in k c ≤ depth_limit = (room p k c t d m).2 (ap (λ w. if w then false else is_expression k) f ∙ e) in (λ y. omega (arith, x), x)
counted_fits false p k c t d f e m = (λ y. absurd (true_is_not_false (sym y)), (room p k c t d m).0)

-- no row expects an operand by its first item
pub operand_expected : (n : ℕ) (counted : Bool) (r : Row) (m : ℕ) (ts : List Token) → IsExpected (Operand n counted · r) m ts false
operand_expected n counted r m [] = refl
operand_expected n counted r m (t ∷ ts) = refl

-- an operand is read, and then the rest of its row
pub operand_on : {p : SyntaxKind} {r : Row} {n : ℕ} {counted : Bool} {G : Before} {F : Follow} {k : SyntaxKind} {c t : Forest} → Good n k c
    → counts_no_child p ≡ (if counted then false else true) → Next (binds_at_most (below n)) F t → Rest p r Any F t
    → Rest p (Operand n counted · r) G F (node k c t)
operand_on {p} {r} {n} {counted} {G} {F} {k} {c} {t} g f behind rest =
    node_on (ap (λ w. only w r) g.fit) (λ d m. counted_fits counted p k c t d f (fits_expression n k g.fit) m) placed (λ x b o w. tt) (good_node g) behind rest
  where
    placed : (m : ℕ) (x b : AnnotatedForest) (vs : List Token) → Over c b → G x → binds_at_most (below n) (head_kind vs) ≡ true
        → Placed (Operand n counted · r) m x k b vs
    placed m x b vs o w z = (operand_expected n counted r m (tokens_in b ++ vs), tt, operand_at g b vs o z, unreported k x b (fits_expression n k g.fit))

-- an operand in a series up to a closing token is read, and then the rest
pub series_on : {p : SyntaxKind} {r : Row} {n : ℕ} {closer : SyntaxKind} {G : Before} {F : Follow} {k : SyntaxKind} {c t : Forest} → Good n k c
    → counts_no_child p ≡ false → list_all (λ i. if is_expression i then (if same_kind closer i then false else true) else true) all_kinds ≡ true
    → ((b : Bool) → list_all (λ i. if is_start i then stands_so (Many n closer · r) b i false else true) all_kinds ≡ true)
    → Next (binds_at_most (below n)) F t → Rest p (Many n closer · r) Any F t → Rest p (Many n closer · r) G F (node k c t)
series_on {p} {r} {n} {closer} {G} {F} {k} {c} {t} g f x y behind rest = node_on stays (λ d m. counted_fits true p k c t d f e m) placed (λ x b o w. tt)
    (good_node g) behind rest
  where
    e : is_expression k ≡ true
    e = fits_expression n k g.fit

    not : (w : Bool) → (if w then false else true) ≡ true → (if w then r else only (fits n k) (Many n closer · r)) ≡ Many n closer · r
    not true h = absurd (true_is_not_false (sym h))
    not false h = ap (λ w. only w (Many n closer · r)) g.fit

    stays : after (Many n closer · r) k ≡ Many n closer · r
    stays = not (same_kind closer k) (implied is_expression (λ i. if same_kind closer i then false else true) x k e)

    placed : (m : ℕ) (x b : AnnotatedForest) (vs : List Token) → Over c b → G x → binds_at_most (below n) (head_kind vs) ≡ true
        → Placed (Many n closer · r) m x k b vs
    placed m x b vs o w z = (
      opened_so (Many n closer · r) m false is_start y (tokens_in b ++ vs)
          (good_opens g b vs o (wide (below n) (head_kind vs) z)),
      tt,
      operand_at g b vs o z,
      unreported k x b e,
    )

-- the first tree of a row is read, and then the rest
pub first_on : {p : SyntaxKind} {q r : Row} {H : Before} {N F : Follow} {k : SyntaxKind} {c t : Forest} → after q k ≡ r → is_part q ≡ true
    → ((m : ℕ) (ts : List Token) (w : Bool) → IsExpected q m ts w) → ((g b : AnnotatedForest) → repeats k g b ≡ [])
    → ((b : AnnotatedForest) → Over c b → H (one_branch k b)) → Node N k c → Next N F t
    → Rest p r H F t → Rest p q (λ g. g ≡ blank) F (node k c t)
first_on {p} {q} {r} {H} {N} {F} {k} {c} {t} e i x y before child behind rest =
    node_on e (λ d m. uncounted q d (depth_in k c) (part_so q i).0 (room p k c t d m).0) placed
    (λ g b o w. subst (λ z. H (z ⊕ one_branch k b)) (sym w) (before b o)) child behind rest
  where
    placed : (m : ℕ) (g b : AnnotatedForest) (vs : List Token) → Over c b → g ≡ blank → N (head_kind vs) ≡ true → Placed q m g k b vs
    placed m g b vs o w z = (
      x m (tokens_in b ++ vs) (is_first_expected q k b),
      (part_so q i).2 g (head_kind (tokens_in b ++ vs)),
      subst (λ l. IsOperandOf l (one_branch k b) vs) (sym ((part_so q i).1 (one_branch k b))) tt,
      y g b,
    )

argument_follows : (i : SyntaxKind) (g : AnnotatedForest) → is_fn_arg i ≡ true → nat_le 15 (row_level g) ≡ true
    → ((is_fn_arg i || is_or i) && follows i g) ≡ true
argument_follows TOKEN_IDENT g b h = h
argument_follows _ g b h = first_of (assumption, cc)

no_or_row : (k : SyntaxKind) (b : AnnotatedForest) (vs : List Token) → Opens is_fn_arg (tokens_in b ++ vs) → is_or_row (one_branch k b) ≡ false
no_or_row NODE_IDENT (token i t f) vs o = not_if (is_or t.kind) (implied is_fn_arg (λ j. if is_or j then false else true) refl t.kind o)
no_or_row NODE_IDENT _ vs o = refl
no_or_row _ b vs o = refl

-- an argument is read
pub argument_on : {p : SyntaxKind} {F : Follow} {k : SyntaxKind} {c : Forest} → Good 16 k c → Next (binds_at_most 15) F empty
    → Rest p done Any F empty → Rest p (Argument · done) (λ g. nat_le 15 (row_level g) ≡ true) F (node k c empty)
argument_on {p} {F} {k} {c} g behind rest =
    node_on (ap (λ w. only w done) g.fit) (λ d m. (λ y. absurd (true_is_not_false (sym y)), (room p k c empty d m).0)) placed (λ x b o w. tt)
    (good_node g) behind rest
  where
    expected : (m : ℕ) (ts : List Token) → Opens is_fn_arg ts → IsExpected (Argument · done) m ts false
    expected m ts o = opened_so (Argument · done) m false is_fn_arg (λ b. refl) ts o

    followed : (x : AnnotatedForest) (ts : List Token) → Opens is_fn_arg ts → nat_le 15 (row_level x) ≡ true → IsFollowed (Argument · done) x (head_kind ts)
    followed x [] o h = absurd o
    followed x (t ∷ ts) o h = argument_follows t.kind x o h

    placed : (m : ℕ) (x b : AnnotatedForest) (vs : List Token) → Over c b → nat_le 15 (row_level x) ≡ true → binds_at_most 15 (head_kind vs) ≡ true
        → Placed (Argument · done) m x k b vs
    placed m x b vs o w z =
        let i : Opens is_fn_arg (tokens_in b ++ vs) = argument_opens g b vs o (wide 15 (head_kind vs) z) in
        let e : is_or_row (one_branch k b) ≡ false = no_or_row k b vs i in (
          subst (λ v. IsExpected (Argument · done) m (tokens_in b ++ vs) v) (sym e) (expected m (tokens_in b ++ vs) i),
          followed x (tokens_in b ++ vs) i w,
          subst (λ v. IsOperandOf (if v then None else Some 16) (one_branch k b) vs) (sym e) (operand_at g b vs o z),
          unreported k x b (fits_expression 16 k g.fit),
        )

-- a node whose first tree is that of its first child begins as this child does
pub begins_first : {n : ℕ} {j : SyntaxKind} {a t : Forest} (l : ℕ) (k : SyntaxKind)
    → ((b f e : AnnotatedForest) → first_tree (branch j b f) ≡ first_tree (branch k (branch j b f) e))
    → l ≤ n → Good n j a → Next (binds_at_most 16) (binds_at_most 16) t → (b f : AnnotatedForest) (us : List Token) → Over (node j a t) b
    → binds_at_most 16 (head_kind us) ≡ true
    → Begun l (branch k b f) (tokens_in b ++ us)
begins_first {n} {j} {a} {t} l k same m g behind b f us (over_node {b = x} {f = h} o v) z =
    subst (λ ts. Begun l (branch k (branch j x h) f) ts) (sym (append_assoc (tokens_in x) (tokens_in h) us))
    (begun_same l (branch j x h) (branch k (branch j x h) f) (tokens_in x ++ (tokens_in h ++ us)) (same x h f)
    (begun_lower l g.level (branch j x h) (tokens_in x ++ (tokens_in h ++ us)) (omega (arith, m, g.min_bp))
    (g.begins x h (tokens_in h ++ us) o (behind.next h us v z))))

-- a node that begins with a token begins as the token determines
pub begins_leaf : {i k : SyntaxKind} {s : List ℕ} {c : Forest} (l : ℕ) → ((b f : AnnotatedForest) → first_tree (branch k b f) ≡ k)
    → is_known k ≡ true
    → ((text : List ℕ) (h : AnnotatedForest) (us : List Token) → text ≡ s → Over c h → binds_at_most 16 (head_kind us) ≡ true
    → first_kind l (kind_of_token i s) text (head_kind (tokens_in h ++ us)) (second_kind (tokens_in h ++ us)) ≡ k)
    → (b f : AnnotatedForest) (us : List Token) → Over (leaf i s c) b → binds_at_most 16 (head_kind us) ≡ true → Begun l (branch k b f) (tokens_in b ++ us)
begins_leaf l same known tells b f us (over_leaf {x = x} {f = h} e w o) z = (
  ap (λ j. first_kind l j x.text (head_kind (tokens_in h ++ us)) (second_kind (tokens_in h ++ us))) e ∙ tells x.text h us w o z ∙ sym (same b f),
  ap is_known (same b f) ∙ known,
)

-- An atom: anything may follow it that does not make a longer name of it.
pub record GoodAtom (k : SyntaxKind) (c : Forest) : Type 0 where
  pub atom : is_atom k ≡ true
  pub node : Node (binds_at_most 16) k c
  pub begins : (b f : AnnotatedForest) (us : List Token) → Over c b → binds_at_most 16 (head_kind us) ≡ true → Begun 16 (branch k b f) (tokens_in b ++ us)

atom_level : (k : SyntaxKind) (b : AnnotatedForest) → is_atom k ≡ true → nat_le 16 (level_of k b) ≡ true
atom_level NODE_PAREN b h = refl
atom_level _ b h = cc

-- an atom is an expression at the highest level
pub good_atom : {k : SyntaxKind} {c : Forest} → GoodAtom k c → Good 16 k c
good_atom {k} a = record {
  level = 16;
  max_bp = 16;
  min_bp = omega arith;
  agrees = refl;
  fit = atom_fits 16 k a.atom;
  node = a.node;
  tight = λ b o. atom_level k b a.atom;
  begins = a.begins;
}
