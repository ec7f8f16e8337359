-- `{` begins a pattern before the rest of a pattern, and not before that of a set. How functions begin. No entry of a pattern repeats a name.
use Rattle.std.{specs.Str.bytes_eq, proofs.Common.{◌≡◌, ℕ, Bool, true, false, List, [], ◌∷◌, ◌++◌, Option, Some, None, refl, ap, sym, ◌∙◌, append_assoc, if◌then◌else◌}}
use Rattle.rnix_kinds.specs.declared.kinds.SyntaxKind.{SyntaxKind, TheVariants.{TOKEN_AT, TOKEN_COLON, TOKEN_COMMA, TOKEN_ELLIPSIS, TOKEN_IDENT, TOKEN_INHERIT}}
use Rattle.rnix_kinds.specs.declared.kinds.SyntaxKind.TheVariants.{TOKEN_INTERPOL_START, TOKEN_OR, TOKEN_QUESTION, TOKEN_R_BRACE, TOKEN_STRING_START, NODE_ATTR_SET, NODE_IDENT, NODE_PAT_ENTRY, NODE_PATTERN}
use Rattle.rnix_green.specs.Forest.{Forest, empty, leaf}
use Rattle.rnix_grammar.specs.AnnotatedForest.{Token, AnnotatedForest, branch, ◌⊕◌, one_token, one_branch, tokens_in, head_kind, extent_of}
use Rattle.rnix_grammar.specs.{OperandStarts.{is_pattern, second_kind, first_kind, first_kind_of_name}, Yield.kind_of_token, Tables.{is_or, is_among}, Fault.duplicated_args, Reports.{repeats, has_entry}}
use Rattle.rnix_grammar.specs.Grammar.{Entries, entries_end, inheriting, binding, bind, inherit_names, inherit_from, Attrpath, last_attr, attr_dot, Attr, named_attr, string_attr, dynamic_attr}
use Rattle.rnix_grammar.specs.Grammar.{Parameter, parameter, pattern, bound_pattern, Formals, formals_end, ellipsis, last_entry, entry_comma, pattern_end, bound_behind, Formal, entry, default_entry}
use Rattle.rnix_proof_lemmas.proofs.{Basics.{true_is_not_false, not_if}, EntryNames.has-⊕, PlainTables.binds_at_most}
use Rattle.rnix_proof_completeness.proofs.OverTokens.{Over, over_nothing, over_leaf, over_node}

-- a name that is not `or` is a TOKEN_IDENT
pub name_kind : (s : List ℕ) → is_or s ≡ false → kind_of_token TOKEN_IDENT s ≡ TOKEN_IDENT
name_kind s h = ap (λ w. if w then TOKEN_OR else TOKEN_IDENT) h

-- `{` begins a pattern before these items
abbrev pub opens_pattern : List Token → Bool
opens_pattern ts = is_pattern (head_kind ts) (second_kind ts)

one : {a : SyntaxKind} (third : Option SyntaxKind) (i : SyntaxKind) → a ≡ i → is_pattern (Some a) third ≡ is_pattern (Some i) third
one third i e = ap (λ z. is_pattern (Some z) third) e

two : {a b : SyntaxKind} (i j : SyntaxKind) → a ≡ i → b ≡ j → is_pattern (Some a) (Some b) ≡ is_pattern (Some i) (Some j)
two {b = b} i j e h = ap (λ z. is_pattern (Some z) (Some b)) e ∙ ap (λ z. is_pattern (Some i) (Some z)) h

-- `{` begins a pattern before formals
pub formals_open : {names : List (List ℕ)} {f : Forest} → Formals false names f → (h : AnnotatedForest) (vs : List Token) → Over f h
    → head_kind vs ≡ Some TOKEN_COLON
    → opens_pattern (tokens_in h ++ vs) ≡ true
formals_open (formals_end pattern_end) h vs (over_leaf e i over_nothing) c = one _ TOKEN_R_BRACE e ∙ ap (λ z. is_pattern (Some TOKEN_R_BRACE) z) c
formals_open (formals_end (bound_behind n)) h vs (over_leaf e i (over_node (over_leaf u j o) v)) c = two TOKEN_R_BRACE TOKEN_AT e u
formals_open (ellipsis w) h vs (over_leaf e i (over_leaf u j o)) c = two TOKEN_ELLIPSIS TOKEN_R_BRACE e u
formals_open (last_entry m (entry {x = x} n) w) h vs (over_node (over_node (over_leaf e i over_nothing) over_nothing) (over_leaf u j o)) c =
    two TOKEN_IDENT TOKEN_R_BRACE (e ∙ name_kind x n) u
formals_open (last_entry m (default_entry {x = x} n d) w) h vs (over_node (over_node (over_leaf e i over_nothing) (over_leaf u j o)) v) c =
    two TOKEN_IDENT TOKEN_QUESTION (e ∙ name_kind x n) u
formals_open (entry_comma m (entry {x = x} n) w) h vs (over_node (over_node (over_leaf e i over_nothing) over_nothing) (over_leaf u j o)) c =
    two TOKEN_IDENT TOKEN_COMMA (e ∙ name_kind x n) u
formals_open (entry_comma m (default_entry {x = x} n d) w) h vs (over_node (over_node (over_leaf e i over_nothing) (over_leaf u j o)) v) c =
    two TOKEN_IDENT TOKEN_QUESTION (e ∙ name_kind x n) u

-- `{` and a name do not begin a pattern before this item
abbrev is_no_tail : Option SyntaxKind → Bool
is_no_tail o = if is_pattern (Some TOKEN_IDENT) o then false else true

attr_opens : {k : SyntaxKind} {c : Forest} → Attr k c → (b : AnnotatedForest) (vs : List Token) → Over c b → is_no_tail (head_kind vs) ≡ true
    → opens_pattern (tokens_in b ++ vs) ≡ false
attr_opens (named_attr {s = s}) b vs (over_leaf {x = x} e i over_nothing) h = by (is_or s) e
  where
    by : (w : Bool) → x.kind ≡ (if w then TOKEN_OR else TOKEN_IDENT) → is_pattern (Some x.kind) (head_kind vs) ≡ false
    by true e = one _ TOKEN_OR e
    by false e = one _ TOKEN_IDENT e ∙ not_if (is_pattern (Some TOKEN_IDENT) (head_kind vs)) h
attr_opens (string_attr a) b vs (over_leaf e i o) h = one _ TOKEN_STRING_START e
attr_opens (dynamic_attr a) b vs (over_leaf e i o) h = one _ TOKEN_INTERPOL_START e

path_opens : {f : Forest} → Attrpath f → (b : AnnotatedForest) (vs : List Token) → Over f b → is_no_tail (head_kind vs) ≡ true
    → opens_pattern (tokens_in b ++ vs) ≡ false
path_opens (last_attr a) b vs (over_node {b = c} o over_nothing) h = ap opens_pattern (append_assoc (tokens_in c) [] vs) ∙ attr_opens a c vs o h
path_opens (attr_dot a r) b vs (over_node {b = c} o (over_leaf {x = x} {f = f} e i v)) h =
    ap opens_pattern (append_assoc (tokens_in c) (x ∷ tokens_in f) vs) ∙ attr_opens a c (x ∷ (tokens_in f ++ vs)) o (ap (λ z. is_no_tail (Some z)) e)

-- `{` and `}` do not begin a pattern before an item that makes no longer name or pattern
no_binder : (next : Option SyntaxKind) → binds_at_most 16 next ≡ true → is_pattern (Some TOKEN_R_BRACE) next ≡ false
no_binder None h = refl
no_binder (Some TOKEN_COLON) h = absurd (true_is_not_false (sym h))
no_binder (Some TOKEN_AT) h = absurd (true_is_not_false (sym h))
no_binder (Some _) h = refl

-- `{` does not begin a pattern before the entries of a set
pub entries_open : {f : Forest} {s : List ℕ} → Entries f (leaf TOKEN_R_BRACE s empty) → (h : AnnotatedForest) (vs : List Token) → Over f h
    → binds_at_most 16 (head_kind vs) ≡ true → opens_pattern (tokens_in h ++ vs) ≡ false
entries_open entries_end h vs (over_leaf e i over_nothing) l = one _ TOKEN_R_BRACE e ∙ no_binder (head_kind vs) l
entries_open (inheriting (inherit_names n) r) h vs (over_node (over_leaf e i o) v) l = one _ TOKEN_INHERIT e
entries_open (inheriting (inherit_from q n) r) h vs (over_node (over_leaf e i o) v) l = one _ TOKEN_INHERIT e
entries_open (binding (bind a d) r) h vs (over_node {f = k} (over_node {b = c} o (over_leaf {x = x} {f = f} e i u)) v) l =
    ap opens_pattern (append_assoc (tokens_in c ++ (x ∷ tokens_in f)) (tokens_in k) vs ∙ append_assoc (tokens_in c) (x ∷ tokens_in f) (tokens_in k ++ vs))
    ∙ path_opens a c (x ∷ (tokens_in f ++ (tokens_in k ++ vs))) o (ap (λ z. is_no_tail (Some z)) e)

-- the first tree of an expression that begins with these items has the kind
abbrev pub BeginsWith : SyntaxKind → List Token → Type 0
BeginsWith k [] = ⊥
BeginsWith k (t ∷ ts) = first_kind 0 t.kind t.text (head_kind ts) (second_kind ts) ≡ k

pub parameter_begins : {k : SyntaxKind} {c : Forest} → Parameter k c → (b : AnnotatedForest) (vs : List Token) → Over c b → head_kind vs ≡ Some TOKEN_COLON
    → BeginsWith k (tokens_in b ++ vs)
parameter_begins (parameter {t = s} n) b vs (over_node (over_leaf {x = x} e i over_nothing) over_nothing) h =
    ap (λ z. first_kind 0 z x.text (head_kind vs) (second_kind vs)) (e ∙ name_kind s n) ∙ ap (λ z. first_kind_of_name x.text z) h
parameter_begins (pattern w) b vs (over_leaf {x = x} {f = f} e i o) h =
    ap (λ z. first_kind 0 z x.text (head_kind (tokens_in f ++ vs)) (second_kind (tokens_in f ++ vs))) e ∙ ap (λ w. if w then NODE_PATTERN else NODE_ATTR_SET)
    (formals_open w f vs o h)
parameter_begins (bound_pattern {t = s} n w) b vs (over_node {f = g} (over_node (over_leaf {x = x} e i over_nothing)
    (over_leaf {x = y} u j over_nothing)) v) h =
    ap (λ z. first_kind 0 z x.text (Some y.kind) (head_kind (tokens_in g ++ vs))) (e ∙ name_kind s n) ∙ ap (λ z. first_kind_of_name x.text (Some z)) u

-- every name outside the list is new to the entries so far
abbrev pub Covers : List (List ℕ) → AnnotatedForest → Type 0
Covers names g = (n : List ℕ) → is_among n names ≡ false → has_entry n g ≡ false

pub covers_leaf : (names : List (List ℕ)) (g : AnnotatedForest) (k : SyntaxKind) (x : Token) → Covers names g → Covers names (g ⊕ one_token k x)
covers_leaf names g k x h n m = has-⊕ n g (one_token k x) ∙ ap (λ w. if w then true else false) (h n m)

neither : (v w : Bool) → (if v then true else w) ≡ false → (v ≡ false) × (w ≡ false)
neither true w h = absurd (true_is_not_false h)
neither false w h = (refl, h)

named_new : (names : List (List ℕ)) (g f : AnnotatedForest) (x : List ℕ) (y : Token) → y.text ≡ x → Covers names g → is_among x names ≡ false
    → (repeats NODE_PAT_ENTRY g (branch NODE_IDENT (one_token TOKEN_IDENT y) f) ≡ [])
    × Covers (x ∷ names) (g ⊕ one_branch NODE_PAT_ENTRY (branch NODE_IDENT (one_token TOKEN_IDENT y) f))
named_new names g f x y i h m = (ap (λ w. if w then duplicated_args (extent_of (y ∷ [])) y.text ∷ [] else []) (ap (λ t. has_entry t g) i ∙ h x m), covers)
  where
    covers : Covers (x ∷ names) (g ⊕ one_branch NODE_PAT_ENTRY (branch NODE_IDENT (one_token TOKEN_IDENT y) f))
    covers n a =
        let w = neither (bytes_eq n x) (is_among n names) a in
        has-⊕ n g (one_branch NODE_PAT_ENTRY (branch NODE_IDENT (one_token TOKEN_IDENT y) f))
        ∙ ap (λ v. if v then true else (if bytes_eq n y.text then true else false)) (h n w.1) ∙ ap (λ v. if v then true else false)
        (ap (λ t. bytes_eq n t) i ∙ w.0)

-- an entry of a pattern whose name is not in the list repeats no name
pub formal_new : (names : List (List ℕ)) (g b : AnnotatedForest) {x : List ℕ} {c : Forest} → Formal x c → Over c b → Covers names g → is_among x names ≡ false
    → (repeats NODE_PAT_ENTRY g b ≡ []) × Covers (x ∷ names) (g ⊕ one_branch NODE_PAT_ENTRY b)
formal_new names g b (entry {x = x} n) (over_node {f = f} (over_leaf {x = y} e i over_nothing) v) h m = named_new names g f x y i h m
formal_new names g b (default_entry {x = x} n d) (over_node {f = f} (over_leaf {x = y} e i over_nothing) v) h m = named_new names g f x y i h m
