-- A set that is read without errors does not begin like a pattern.
use Rattle.std.proofs.Common.{◌≡◌, ◌⊎◌, inl, inr, ℕ, true, false, List, [], ◌∷◌, ◌++◌, Option, Some, None, refl, ap, sym, ◌∙◌, subst, append_assoc}
use Rattle.std.proofs.Common.{if◌then◌else◌, ◌&&◌, ◌||◌}
use Rattle.std.proofs.lemmas.Bool.{and_from}
use Rattle.rnix_kinds.specs.declared.kinds.SyntaxKind.{SyntaxKind}
use Rattle.rnix_kinds.specs.declared.kinds.SyntaxKind.TheVariants.{NODE_ATTR_SET, NODE_ATTRPATH, NODE_ATTRPATH_VALUE, NODE_DYNAMIC, NODE_IDENT, NODE_INHERIT}
use Rattle.rnix_kinds.specs.declared.kinds.SyntaxKind.TheVariants.{NODE_LEGACY_LET, NODE_PATTERN, NODE_STRING, TOKEN_ASSIGN, TOKEN_DOT, TOKEN_IDENT}
use Rattle.rnix_kinds.specs.declared.kinds.SyntaxKind.TheVariants.{TOKEN_INHERIT, TOKEN_INTERPOL_START, TOKEN_L_BRACE, TOKEN_LET, TOKEN_R_BRACE}
use Rattle.rnix_kinds.specs.declared.kinds.SyntaxKind.TheVariants.{TOKEN_STRING_START}
use Rattle.rnix_kinds.proofs.AllKinds.{implied}
use Rattle.rnix_green.specs.Equality.{same_kind}
use Rattle.rnix_grammar.specs.AnnotatedForest.{Token, AnnotatedForest, blank, token, branch, fault, ◌⊕◌, one_token, tokens_in, leaf_kind, head_kind}
use Rattle.rnix_grammar.specs.OperandStarts.{is_pattern, first_kind_of_let, first_kind, second_kind}
use Rattle.rnix_grammar.specs.Fault.{Fault}
use Rattle.rnix_grammar.specs.Reads.{Reads, end, leaf, inner, missing_part, wrong, second}
use Rattle.rnix_grammar.specs.Reports.{repeats}
use Rattle.rnix_grammar.specs.NodeClasses.{is_attr, is_entry}
use Rattle.rnix_grammar.specs.Rules.{Row, row, after, may_end, begins_attr, IsExpected}
use Rattle.rnix_grammar.specs.TokenKinds.{is_inherit_token}
use Rattle.rnix_proof_lemmas.proofs.AnnotatedForestLemmas.{tokens_in-⊕}
use Rattle.rnix_proof_lemmas.proofs.Basics.{true_is_not_false, not_nil, none_remaining, none_right}
use Rattle.rnix_proof_lemmas.proofs.EachKind.{each_kind}
use Rattle.rnix_proof_lemmas.proofs.EveryKind.{only}
use Rattle.rnix_proof_lemmas.proofs.RowKinds.{has_row}
use Rattle.rnix_proof_lemmas.proofs.ReachableRows.{is_viable}
use Rattle.rnix_proof_lemmas.proofs.ViableRows.{reads_viable, end_viable, reads_row, past_ends}
use Rattle.rnix_proof_reparse.specs.Bracketed.{IsBracketed, set, recursive_set, legacy_let, list, paren, string}
use Rattle.rnix_proof_reparse.proofs.CarriedReadings.{no_second}
use Rattle.rnix_proof_reparse.proofs.BracketedNodes.{bracketed, BeginsItself, opened}
use Rattle.rnix_proof_reparse.proofs.BalancedItems.{is_over, not_over}

-- a forest that is read without errors, between two rests of a row
record IsRead (p : SyntaxKind) (q q' : Row) (f : AnnotatedForest) : Type 0 where
  depth : ℕ
  prev : ℕ
  before : AnnotatedForest
  next : List Token
  reads : Reads p depth prev q q' before next f []

clean : {p : SyntaxKind} {d n : ℕ} {q q' : Row} {b f : AnnotatedForest} {us : List Token} {es : List Fault} → Reads p d n q q' b us f es → es ≡ []
    → IsRead p q q' f
clean {p} {d} {n} {q} {q'} {b} {f} {us} h z =
    record { depth = d; prev = n; before = b; next = us; reads = subst (λ (e : List Fault). Reads p d n q q' b us f e) z h }

-- if the row requires a token of one kind next, the forest begins with it
record IsFirstLeaf (p : SyntaxKind) (q q' : Row) (a : SyntaxKind) (f : AnnotatedForest) : Type 0 where
  first : Token
  rest : AnnotatedForest
  is : f ≡ token a first rest
  kind : leaf_kind p first ≡ a
  reads : IsRead p (after q a) q' rest

first_leaf : {p : SyntaxKind} {d n : ℕ} {q q' : Row} {b f : AnnotatedForest} {us : List Token} {es : List Fault} (a : SyntaxKind) → Reads p d n q q' b us f es
    → es ≡ [] → may_end q' ≡ true → may_end q ≡ false → has_row a ≡ false → ((k : SyntaxKind) → is_viable (after q k) ≡ true → k ≡ a)
    → IsFirstLeaf p q q' a f
first_leaf a end z e m r one = absurd (true_is_not_false (sym e ∙ m))
first_leaf a (missing_part u t x o h) z e m r one = absurd (not_nil z)
first_leaf a (wrong note ts x o v h) z e m r one = absurd (not_nil z)
first_leaf a (second {c = x} {ds = ds} {es = es} hr over h) z e m r one = no_second ds (tokens_in x) es z
first_leaf {p} {q = q} {q' = q'} a (leaf {t = t} {f = f} x o h) z e m r one =
    let same : leaf_kind p t ≡ a = one (leaf_kind p t) (reads_viable h (end_viable q' e)) in
    record {
      first = t;
      rest = f;
      is = ap (λ k. token k t f) same;
      kind = same;
      reads = subst (λ k. IsRead p (after q k) q' f) same (clean h z);
    }
first_leaf {q' = q'} a (inner {k = k} room hr over i o op h) z e m r one =
    absurd (true_is_not_false (sym (reads_row hr over.0) ∙ ap has_row (one k (reads_viable h (end_viable q' e))) ∙ r))

-- if the row requires a node next, the forest begins with one
record IsFirstNode (p : SyntaxKind) (q q' : Row) (f : AnnotatedForest) : Type 0 where
  kind : SyntaxKind
  children : AnnotatedForest
  rest : AnnotatedForest
  remaining : Row
  is : f ≡ branch kind children rest
  viable : is_viable (after q kind) ≡ true
  inside : IsRead kind (row kind) remaining children
  ended : may_end remaining ≡ true
  reads : IsRead p (after q kind) q' rest

first_node : {p : SyntaxKind} {d n : ℕ} {q q' : Row} {b f : AnnotatedForest} {us : List Token} {es : List Fault} → Reads p d n q q' b us f es
    → es ≡ [] → may_end q' ≡ true → may_end q ≡ false
    → ((n : ℕ) (t : Token) (ts : List Token) → IsExpected q n (t ∷ ts) true → is_viable (after q (leaf_kind p t)) ≡ true → ⊥) → IsFirstNode p q q' f
first_node end z e m no_leaf = absurd (true_is_not_false (sym e ∙ m))
first_node (missing_part u t x o h) z e m no_leaf = absurd (not_nil z)
first_node (wrong note ts x o v h) z e m no_leaf = absurd (not_nil z)
first_node (second {c = x} {ds = ds} {es = es} hr over h) z e m no_leaf = no_second ds (tokens_in x) es z
first_node {n = n} {q' = q'} {us = us} (leaf {t = t} {f = f} x o h) z e m no_leaf =
    absurd (no_leaf n t (tokens_in f ++ us) x (reads_viable h (end_viable q' e)))
first_node {q' = q'} {b = b} (inner {k = k} {s = s} {c = x} {f = f} {ds = ds} {es = es} room hr over i o op h) z e m no_leaf = record {
  kind = k;
  children = x;
  rest = f;
  remaining = s;
  is = refl;
  viable = reads_viable h (end_viable q' e);
  inside = clean hr (none_remaining ds (repeats k b x) (none_remaining (ds ++ repeats k b x) es z));
  ended = over.0;
  reads = clean h (none_right (ds ++ repeats k b x) es z);
}

-- the items do not begin a pattern after `{`, whatever follows them
abbrev BeginNone : List Token → Type 0
BeginNone ts = (us : List Token) → is_pattern (head_kind (ts ++ us)) (second_kind (ts ++ us)) ≡ false

pattern_none : (k : SyntaxKind) → is_pattern (Some k) None ≡ false
pattern_none k = each_kind (λ k. is_pattern (Some k) None ≡ false) (assumption) k

pattern_dot : (k : SyntaxKind) → is_pattern (Some k) (Some TOKEN_DOT) ≡ false
pattern_dot k = each_kind (λ k. is_pattern (Some k) (Some TOKEN_DOT) ≡ false) (assumption) k

pattern_assign : (k : SyntaxKind) → is_pattern (Some k) (Some TOKEN_ASSIGN) ≡ false
pattern_assign k = each_kind (λ k. is_pattern (Some k) (Some TOKEN_ASSIGN) ≡ false) (assumption) k

-- this holds if the first one does not
none_first : (t : Token) (ts : List Token) (a : SyntaxKind) → t.kind ≡ a → ((next : Option SyntaxKind) → is_pattern (Some a) next ≡ false) → BeginNone (t ∷ ts)
none_first t ts a e h us = ap (λ k. is_pattern (Some k) (head_kind (ts ++ us))) e ∙ h (head_kind (ts ++ us))

none_more : (ts us : List Token) → BeginNone ts → BeginNone (ts ++ us)
none_more ts us h vs = ap (λ z. is_pattern (head_kind z) (second_kind z)) (append_assoc ts us vs) ∙ h (us ++ vs)

-- after a name in an attribute path there is a `.` or nothing
dots : {d n : ℕ} {q q' : Row} {b f : AnnotatedForest} {us : List Token} {es : List Fault} → Reads NODE_ATTRPATH d n q q' b us f es → es ≡ []
    → may_end q' ≡ true → ((k : SyntaxKind) → is_viable (after q k) ≡ true → k ≡ TOKEN_DOT)
    → (f ≡ blank) ⊎ ((t : Token) × (g : AnnotatedForest) × (f ≡ token TOKEN_DOT t g) × (t.kind ≡ TOKEN_DOT))
dots end z e one = inl refl
dots (missing_part u t x o h) z e one = absurd (not_nil z)
dots (wrong note ts x o v h) z e one = absurd (not_nil z)
dots (second {c = x} {ds = ds} {es = es} hr over h) z e one = no_second ds (tokens_in x) es z
dots {q' = q'} (leaf {t = t} {f = f} x o h) z e one =
    let same : t.kind ≡ TOKEN_DOT = one t.kind (reads_viable h (end_viable q' e)) in
    inr (t, f, ap (λ k. token k t f) same, same)
dots {q' = q'} (inner {k = k} room hr over i o op h) z e one =
    absurd (true_is_not_false (sym (reads_row hr over.0) ∙ ap has_row (one k (reads_viable h (end_viable q' e)))))

-- an attribute is a name, a string or an interpolation
attr_is : (k : SyntaxKind) → is_attr k ≡ true → (k ≡ NODE_IDENT) ⊎ ((k ≡ NODE_STRING) ⊎ (k ≡ NODE_DYNAMIC))
attr_is NODE_IDENT h = inl refl
attr_is NODE_STRING h = inr (inl refl)
attr_is NODE_DYNAMIC h = inr (inr refl)
attr_is _ h = absurd (true_is_not_false (sym h))

string_none : {d n : ℕ} {s : Row} {b f : AnnotatedForest} {us : List Token} → Reads NODE_STRING d n (row NODE_STRING) s b us f [] → may_end s ≡ true
    → BeginNone (tokens_in f)
string_none h e =
    let w = first_leaf TOKEN_STRING_START h refl e refl refl (only (λ k. is_viable (after (row NODE_STRING) k)) TOKEN_STRING_START refl) in
    subst (λ x. BeginNone (tokens_in x)) (sym w.is) (none_first w.first (tokens_in w.rest) TOKEN_STRING_START w.kind (λ next. refl))

dynamic_none : {d n : ℕ} {s : Row} {b f : AnnotatedForest} {us : List Token} → Reads NODE_DYNAMIC d n (row NODE_DYNAMIC) s b us f [] → may_end s ≡ true
    → BeginNone (tokens_in f)
dynamic_none h e =
    let w = first_leaf TOKEN_INTERPOL_START h refl e refl refl (only (λ k. is_viable (after (row NODE_DYNAMIC) k)) TOKEN_INTERPOL_START refl) in
    subst (λ x. BeginNone (tokens_in x)) (sym w.is) (none_first w.first (tokens_in w.rest) TOKEN_INTERPOL_START w.kind (λ next. refl))

-- the forest is one token
record IsOneToken (f : AnnotatedForest) : Type 0 where
  first : Token
  tokens : tokens_in f ≡ first ∷ []

name_one : {d n : ℕ} {s : Row} {b f : AnnotatedForest} {us : List Token} → Reads NODE_IDENT d n (row NODE_IDENT) s b us f [] → may_end s ≡ true → IsOneToken f
name_one {s = s} h e =
    let w = first_leaf TOKEN_IDENT h refl e refl refl (only (λ k. is_viable (after (row NODE_IDENT) k)) TOKEN_IDENT refl) in
    let none : w.rest ≡ blank = (past_ends w.reads.reads refl (end_viable s e)).no_trees in
    record { first = w.first; tokens = ap tokens_in w.is ∙ ap (λ x. w.first ∷ tokens_in x) none }

-- an attribute path before `=` does not begin a pattern
path_none : {d n : ℕ} {s : Row} {b f : AnnotatedForest} {us : List Token} → Reads NODE_ATTRPATH d n (row NODE_ATTRPATH) s b us f [] → may_end s ≡ true
    → (u : Token) (ts : List Token) → u.kind ≡ TOKEN_ASSIGN → BeginNone (tokens_in f ++ (u ∷ ts))
path_none {s = s} {f = f} h e u ts assign =
    let w = first_node h refl e refl
    (λ n t ts x v. true_is_not_false (sym (implied (λ k. begins_attr k && is_viable (after (row NODE_ATTRPATH) k)) (λ k. false) refl t.kind
    (and_from (begins_attr t.kind) (is_viable (after (row NODE_ATTRPATH) t.kind)) x v)))) in
    subst (λ x. BeginNone (tokens_in x ++ (u ∷ ts))) (sym w.is)
    (subst BeginNone (sym (append_assoc (tokens_in w.children) (tokens_in w.rest) (u ∷ ts)))
    (attr w.kind w.children w.rest w.viable w.inside w.ended w.reads
    (attr_is w.kind (implied (λ k. is_viable (after (row NODE_ATTRPATH) k)) is_attr refl w.kind w.viable))))
  where
    behind : (t : Token) (g : AnnotatedForest) → IsRead NODE_ATTRPATH (after (row NODE_ATTRPATH) NODE_IDENT) s g
        → BeginNone ((t ∷ []) ++ (tokens_in g ++ (u ∷ ts)))
    behind t g r = by (dots r.reads refl e (only (λ k. is_viable (after (after (row NODE_ATTRPATH) NODE_IDENT) k)) TOKEN_DOT refl))
      where
        by : (g ≡ blank) ⊎ ((v : Token) × (y : AnnotatedForest) × (g ≡ token TOKEN_DOT v y) × (v.kind ≡ TOKEN_DOT))
            → BeginNone ((t ∷ []) ++ (tokens_in g ++ (u ∷ ts)))
        by (inl n) vs =
            ap (λ x. is_pattern (Some t.kind) (head_kind ((tokens_in x ++ (u ∷ ts)) ++ vs))) n
            ∙ ap (λ k. is_pattern (Some t.kind) (Some k)) assign ∙ pattern_assign t.kind
        by (inr w) vs =
            ap (λ x. is_pattern (Some t.kind) (head_kind ((tokens_in x ++ (u ∷ ts)) ++ vs))) w.2
            ∙ ap (λ k. is_pattern (Some t.kind) (Some k)) w.3 ∙ pattern_dot t.kind

    attr : (k : SyntaxKind) (y g : AnnotatedForest) {v : Row} → is_viable (after (row NODE_ATTRPATH) k) ≡ true → IsRead k (row k) v y → may_end v ≡ true
        → IsRead NODE_ATTRPATH (after (row NODE_ATTRPATH) k) s g → (k ≡ NODE_IDENT) ⊎ ((k ≡ NODE_STRING) ⊎ (k ≡ NODE_DYNAMIC))
        → BeginNone (tokens_in y ++ (tokens_in g ++ (u ∷ ts)))
    attr k y g {v} l r m o (inl n) =
        let one = name_one (subst (λ k. IsRead k (row k) v y) n r).reads m in
        subst (λ z. BeginNone (z ++ (tokens_in g ++ (u ∷ ts)))) (sym one.tokens)
        (behind one.first g (subst (λ k. IsRead NODE_ATTRPATH (after (row NODE_ATTRPATH) k) s g) n o))
    attr k y g {v} l r m o (inr (inl n)) =
        none_more (tokens_in y) (tokens_in g ++ (u ∷ ts)) (string_none (subst (λ k. IsRead k (row k) v y) n r).reads m)
    attr k y g {v} l r m o (inr (inr n)) =
        none_more (tokens_in y) (tokens_in g ++ (u ∷ ts)) (dynamic_none (subst (λ k. IsRead k (row k) v y) n r).reads m)

-- no entry of a set begins a pattern
inherit_none : {d n : ℕ} {s : Row} {b f : AnnotatedForest} {us : List Token} → Reads NODE_INHERIT d n (row NODE_INHERIT) s b us f [] → may_end s ≡ true
    → BeginNone (tokens_in f)
inherit_none h e =
    let w = first_leaf TOKEN_INHERIT h refl e refl refl (only (λ k. is_viable (after (row NODE_INHERIT) k)) TOKEN_INHERIT refl) in
    subst (λ x. BeginNone (tokens_in x)) (sym w.is) (none_first w.first (tokens_in w.rest) TOKEN_INHERIT w.kind (λ next. refl))

binding_none : {d n : ℕ} {s : Row} {b f : AnnotatedForest} {us : List Token} → Reads NODE_ATTRPATH_VALUE d n (row NODE_ATTRPATH_VALUE) s b us f []
    → may_end s ≡ true → BeginNone (tokens_in f)
binding_none {s = s} h e =
    let w = first_node h refl e refl (λ n t ts x v. true_is_not_false (sym x)) in
    let same : w.kind ≡ NODE_ATTRPATH = only (λ k. is_viable (after (row NODE_ATTRPATH_VALUE) k)) NODE_ATTRPATH refl w.kind w.viable in
    let inside = subst (λ k. IsRead k (row k) w.remaining w.children) same w.inside in
    let rest = subst (λ k. IsRead NODE_ATTRPATH_VALUE (after (row NODE_ATTRPATH_VALUE) k) s w.rest) same w.reads in
    let equals = first_leaf TOKEN_ASSIGN rest.reads refl e refl refl
    (only (λ k. is_viable (after (after (row NODE_ATTRPATH_VALUE) NODE_ATTRPATH) k)) TOKEN_ASSIGN refl) in
    subst (λ x. BeginNone (tokens_in x)) (sym w.is)
    (subst (λ x. BeginNone (tokens_in w.children ++ tokens_in x)) (sym equals.is)
    (path_none inside.reads w.ended equals.first (tokens_in equals.rest) equals.kind))

entry_is : (k : SyntaxKind) → is_entry k ≡ true → (k ≡ NODE_INHERIT) ⊎ (k ≡ NODE_ATTRPATH_VALUE)
entry_is NODE_INHERIT h = inl refl
entry_is NODE_ATTRPATH_VALUE h = inr refl
entry_is _ h = absurd (true_is_not_false (sym h))

entry_none : (k : SyntaxKind) (f : AnnotatedForest) {s : Row} → IsRead k (row k) s f → may_end s ≡ true → (k ≡ NODE_INHERIT) ⊎ (k ≡ NODE_ATTRPATH_VALUE)
    → BeginNone (tokens_in f)
entry_none k f {s} r e (inl n) = inherit_none (subst (λ k. IsRead k (row k) s f) n r).reads e
entry_none k f {s} r e (inr n) = binding_none (subst (λ k. IsRead k (row k) s f) n r).reads e

-- the rest of a set's row after its opening brace
abbrev entries : Row
entries = after (row NODE_ATTR_SET) TOKEN_L_BRACE

-- the items inside a set do not begin a pattern
inside_none : (x : AnnotatedForest) (r : SyntaxKind) (u : Token) {d n : ℕ} {q' : Row} {b : AnnotatedForest} {us : List Token} {es : List Fault} (q : Row)
    → q ≡ entries → Reads NODE_ATTR_SET d n q q' b us (x ⊕ one_token r u) es → es ≡ [] → may_end q' ≡ true
    → is_pattern (head_kind (tokens_in x ++ (u ∷ []))) (second_kind (tokens_in x ++ (u ∷ []))) ≡ false
inside_none blank r u q same h z e = pattern_none u.kind
inside_none (token i t x) r u q same (missing_part a s y o h) z e = absurd (not_nil z)
inside_none (branch i y x) r u q same (missing_part a s v o h) z e = absurd (not_nil z)
inside_none (fault i y x) r u q same (missing_part a s v o h) z e = absurd (not_nil z)
inside_none (fault i y x) r u q same (wrong note ts a o v h) z e = absurd (not_nil z)
inside_none (fault i y x) r u q same (second {ds = ds} {es = es} hr over h) z e = no_second ds (tokens_in y) es z
inside_none (token i t x) r u {n = n} {q' = q'} {us = us} q same (leaf a o h) z e =
    let expected : IsExpected entries n (t ∷ (tokens_in (x ⊕ one_token r u) ++ us)) true =
    subst (λ q. IsExpected q n (t ∷ (tokens_in (x ⊕ one_token r u) ++ us)) true) same a in
    let v : is_viable (after entries t.kind) ≡ true = ap (λ q. is_viable (after q t.kind)) (sym same) ∙ reads_viable h (end_viable q' e) in
    let more : is_over (after entries t.kind) ≡ false = ap (λ q. is_over (after q t.kind)) (sym same) ∙ not_over x r u h (end_viable q' e) in
    absurd (true_is_not_false (sym (implied (λ k. (same_kind TOKEN_R_BRACE k || is_inherit_token k)
    && (is_viable (after entries k) && (if is_over (after entries k) then false else true))) (λ k. false) refl t.kind
    (and_from (same_kind TOKEN_R_BRACE t.kind || is_inherit_token t.kind) _ expected
    (and_from (is_viable (after entries t.kind)) _ v (ap (λ w. if w then false else true) more))))))
inside_none (branch j y x) r u {q' = q'} {b = b} q same (inner {ds = ds} {es = es} room hr over i o op h) z e =
    let v : is_viable (after entries j) ≡ true = ap (λ q. is_viable (after q j)) (sym same) ∙ reads_viable h (end_viable q' e) in
    let kind : is_entry j ≡ true = implied (λ j. has_row j && is_viable (after entries j)) is_entry refl j
    (and_from (has_row j) (is_viable (after entries j)) (reads_row hr over.0) v) in
    none_more (tokens_in y) (tokens_in x)
    (entry_none j y (clean hr (none_remaining ds (repeats j b y) (none_remaining (ds ++ repeats j b y) es z))) over.0 (entry_is j kind)) (u ∷ [])

-- after `let` in a `let { }` there is a brace
let_brace : (x : AnnotatedForest) (r : SyntaxKind) (u : Token) {d n : ℕ} {s : Row} {b : AnnotatedForest} {us : List Token}
    → Reads NODE_LEGACY_LET d n (after (row NODE_LEGACY_LET) TOKEN_LET) s b us (x ⊕ one_token r u) [] → may_end s ≡ true
    → head_kind (tokens_in x ++ (u ∷ [])) ≡ Some TOKEN_L_BRACE
let_brace x r u h e =
    let w = first_leaf TOKEN_L_BRACE h refl e refl refl (only (λ k. is_viable (after (after (row NODE_LEGACY_LET) TOKEN_LET) k)) TOKEN_L_BRACE refl) in
    ap head_kind (sym (tokens_in-⊕ x (one_token r u)) ∙ ap tokens_in w.is) ∙ ap Some w.kind

-- the items of a bracketed node begin this node as an operand
pub begins_itself : {k l r : SyntaxKind} (w : IsBracketed k l r) (t u : Token) (x : AnnotatedForest) {d n : ℕ} {s : Row} {us : List Token}
    → Reads k d n (row k) s blank us (bracketed l t x r u) [] → may_end s ≡ true → t.kind ≡ l → BeginsItself k l t x r u
begins_itself list t u x h e kind =
    ap (λ j. first_kind 0 j t.text (head_kind (tokens_in x ++ (u ∷ []))) (second_kind (tokens_in x ++ (u ∷ [])))) kind
begins_itself paren t u x h e kind =
    ap (λ j. first_kind 0 j t.text (head_kind (tokens_in x ++ (u ∷ []))) (second_kind (tokens_in x ++ (u ∷ [])))) kind
begins_itself string t u x h e kind =
    ap (λ j. first_kind 0 j t.text (head_kind (tokens_in x ++ (u ∷ []))) (second_kind (tokens_in x ++ (u ∷ [])))) kind
begins_itself recursive_set t u x h e kind =
    ap (λ j. first_kind 0 j t.text (head_kind (tokens_in x ++ (u ∷ []))) (second_kind (tokens_in x ++ (u ∷ [])))) kind
begins_itself {r = r} legacy_let t u x h e kind =
    ap (λ j. first_kind 0 j t.text (head_kind (tokens_in x ++ (u ∷ []))) (second_kind (tokens_in x ++ (u ∷ [])))) kind
    ∙ ap first_kind_of_let (let_brace x r u (opened h refl).1 e)
begins_itself {r = r} set t u x h e kind =
    ap (λ j. first_kind 0 j t.text (head_kind (tokens_in x ++ (u ∷ []))) (second_kind (tokens_in x ++ (u ∷ [])))) kind
    ∙ ap (λ w. if w then NODE_PATTERN else NODE_ATTR_SET) (inside_none x r u entries refl (opened h refl).1 refl e)
