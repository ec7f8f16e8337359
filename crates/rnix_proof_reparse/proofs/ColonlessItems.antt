-- In trees that are read without errors, neither `:` nor `@` follows a bracketed node that is an expression.
use Rattle.std.proofs.Common.{◌≡◌, ◌⊎◌, inl, inr, ℕ, Bool, true, false, List, [], ◌∷◌, ◌++◌, Option, Some, None, refl, ap, sym, ◌∙◌, subst, append_assoc}
use Rattle.std.proofs.Common.{if◌then◌else◌, ◌&&◌, ◌||◌, nat_eq}
use Rattle.std.specs.List.{list_all}
use Rattle.std.proofs.lemmas.Bool.{and_parts, and_from}
use Rattle.rnix_kinds.specs.declared.kinds.SyntaxKind.{SyntaxKind}
use Rattle.rnix_kinds.specs.declared.kinds.SyntaxKind.TheVariants.{NODE_APPLY, NODE_ASSERT, NODE_ATTR_SET, NODE_ATTRPATH, NODE_BIN_OP, NODE_CUR_POS}
use Rattle.rnix_kinds.specs.declared.kinds.SyntaxKind.TheVariants.{NODE_ERROR, NODE_HAS_ATTR, NODE_IDENT, NODE_IF_ELSE, NODE_LAMBDA, NODE_LEGACY_LET}
use Rattle.rnix_kinds.specs.declared.kinds.SyntaxKind.TheVariants.{NODE_LET_IN, NODE_LIST, NODE_PAREN, NODE_PAT_BIND, NODE_PAT_ENTRY, NODE_ROOT, NODE_SELECT}
use Rattle.rnix_kinds.specs.declared.kinds.SyntaxKind.TheVariants.{NODE_STRING, NODE_UNARY_OP, NODE_WITH, TOKEN_AT, TOKEN_COLON, TOKEN_R_BRACE}
use Rattle.rnix_kinds.specs.SyntaxKind.{is_fn_arg}
use Rattle.rnix_kinds.proofs.AllKinds.{all_kinds, every, implied}
use Rattle.rnix_grammar.specs.AnnotatedForest.{Token, AnnotatedForest, blank, token, branch, one_branch, tokens_in, leaf_kind, leaf_kind_as, head_kind}
use Rattle.rnix_grammar.specs.OperandStarts.{is_pattern, first_kind, second_kind}
use Rattle.rnix_grammar.specs.FirstKinds.{BeginsAs, IsOperandOf}
use Rattle.rnix_grammar.specs.Fault.{Fault}
use Rattle.rnix_grammar.specs.Operands.{first_tree, follows}
use Rattle.rnix_grammar.specs.Reads.{Reads, end, leaf, inner, missing_part, wrong, second}
use Rattle.rnix_grammar.specs.Reports.{repeats}
use Rattle.rnix_grammar.specs.declared.rules.Part.TheVariants.{Argument, Many, Names}
use Rattle.rnix_grammar.specs.Rules.{Row, ◌·◌, row, after, may_end, begins_attr, expects_item, expects, IsExpected, is_first_expected, level_at, IsFollowed}
use Rattle.rnix_grammar.specs.TokenKinds.{is_or}
use Rattle.rnix_proof_lemmas.proofs.Basics.{true_is_not_false, not_if, not_nil, none_remaining, none_right}
use Rattle.rnix_proof_lemmas.proofs.EveryKind.{only}
use Rattle.rnix_proof_lemmas.proofs.RowKinds.{has_row}
use Rattle.rnix_proof_lemmas.proofs.ReachableRows.{IsKnown, is_viable, every_known, known_row, known_after}
use Rattle.rnix_proof_lemmas.proofs.ViableRows.{reads_viable, end_viable, reads_row}
use Rattle.rnix_proof_reparse.specs.Bracketed.{IsBracketed, set, recursive_set, legacy_let, list, paren, string}
use Rattle.rnix_proof_reparse.proofs.SwappedNodes.{Swapped, here, past_token, past_branch, inside}
use Rattle.rnix_proof_reparse.proofs.CarriedReadings.{no_second}
use Rattle.rnix_proof_reparse.proofs.ReplacedReadings.{IsColonless, IsColonlessAfter}
use Rattle.rnix_proof_reparse.proofs.SwappedEdges.{AreSome, some_first}

-- bracketed nodes, and nodes that may end with one
abbrev pub may_end_bracketed : SyntaxKind → Bool
may_end_bracketed NODE_ATTR_SET = true
may_end_bracketed NODE_LEGACY_LET = true
may_end_bracketed NODE_LIST = true
may_end_bracketed NODE_PAREN = true
may_end_bracketed NODE_STRING = true
may_end_bracketed NODE_BIN_OP = true
may_end_bracketed NODE_APPLY = true
may_end_bracketed NODE_SELECT = true
may_end_bracketed NODE_HAS_ATTR = true
may_end_bracketed NODE_UNARY_OP = true
may_end_bracketed NODE_LAMBDA = true
may_end_bracketed NODE_LET_IN = true
may_end_bracketed NODE_WITH = true
may_end_bracketed NODE_ASSERT = true
may_end_bracketed NODE_IF_ELSE = true
may_end_bracketed NODE_PAT_ENTRY = true
may_end_bracketed NODE_ATTRPATH = true
may_end_bracketed NODE_ROOT = true
may_end_bracketed k = false

bracketed_end : {k l r : SyntaxKind} → IsBracketed k l r → may_end_bracketed k ≡ true
bracketed_end set = refl
bracketed_end recursive_set = refl
bracketed_end legacy_let = refl
bracketed_end list = refl
bracketed_end paren = refl
bracketed_end string = refl

-- the row expects neither `:` nor `@`
abbrev is_colonless_row : Row → Bool
is_colonless_row r =
    (if expects_item r true TOKEN_COLON then false else true) && ((if expects_item r false TOKEN_COLON then false else true)
    && ((if expects_item r true TOKEN_AT then false else true) && (if expects_item r false TOKEN_AT then false else true)))

-- the only nodes that may come next are an argument, an item of a list, or a name
abbrev has_colonless_nodes : Row → Bool
has_colonless_nodes (Argument · r) = true
has_colonless_nodes (Many level closer · r) = true
has_colonless_nodes (Names · r) = is_colonless_row r
has_colonless_nodes r = list_all (λ j. if has_row j && is_viable (after r j) then false else true) all_kinds

-- after a node that may end with a bracket, neither `:` nor `@` may come next in the row
abbrev goes_colonless : SyntaxKind → Row → Bool
goes_colonless i r =
    (if is_viable (after r TOKEN_COLON) then false else true) && ((if is_viable (after r TOKEN_AT) then false else true)
    && ((if may_end r then may_end_bracketed i else true) && has_colonless_nodes r))

abbrev is_colonless_before : SyntaxKind → Row → Bool
is_colonless_before i q = list_all (λ j. if may_end_bracketed j && is_viable (after q j) then goes_colonless i (after q j) else true) all_kinds

record GoesColonless (i : SyntaxKind) (r : Row) : Type 0 where
  colon : is_viable (after r TOKEN_COLON) ≡ false
  at : is_viable (after r TOKEN_AT) ≡ false
  ends : may_end r ≡ true → may_end_bracketed i ≡ true
  nodes : has_colonless_nodes r ≡ true

colonless_behind : {i : SyntaxKind} (q : Row) (j : SyntaxKind) → IsKnown i q → may_end_bracketed j ≡ true → is_viable (after q j) ≡ true
    → GoesColonless i (after q j)
colonless_behind {i} q j known h v =
    let all = implied (λ j. may_end_bracketed j && is_viable (after q j)) (λ j. goes_colonless i (after q j))
    (every_known is_colonless_before (λ i. refl) refl i q known) j (and_from (may_end_bracketed j) (is_viable (after q j)) h v) in
    let a = and_parts (if is_viable (after (after q j) TOKEN_COLON) then false else true) _ all in
    let b = and_parts (if is_viable (after (after q j) TOKEN_AT) then false else true) _ a.1 in
    let c = and_parts (if may_end (after q j) then may_end_bracketed i else true) (has_colonless_nodes (after q j)) b.1 in
    record {
      colon = not_if (is_viable (after (after q j) TOKEN_COLON)) a.0;
      at = not_if (is_viable (after (after q j) TOKEN_AT)) b.0;
      ends = λ e. sym (ap (λ w. if w then may_end_bracketed i else true) e) ∙ c.0;
      nodes = c.1;
    }

-- only `:` or `@` after `}` makes a pattern of the braces
after_brace : (k : SyntaxKind) → is_pattern (Some TOKEN_R_BRACE) (Some k) ≡ true → (k ≡ TOKEN_COLON) ⊎ (k ≡ TOKEN_AT)
after_brace TOKEN_COLON h = inl refl
after_brace TOKEN_AT h = inr refl
after_brace _ h = absurd (true_is_not_false (sym h))

colonless_head : (t : Token) (ts : List Token) → (t.kind ≡ TOKEN_COLON → ⊥) → (t.kind ≡ TOKEN_AT → ⊥) → IsColonless (t ∷ ts)
colonless_head t ts c a = by (is_pattern (Some TOKEN_R_BRACE) (Some t.kind)) refl
  where
    either : (t.kind ≡ TOKEN_COLON) ⊎ (t.kind ≡ TOKEN_AT) → ⊥
    either (inl e) = c e
    either (inr e) = a e

    by : (w : Bool) → is_pattern (Some TOKEN_R_BRACE) (Some t.kind) ≡ w → is_pattern (Some TOKEN_R_BRACE) (Some t.kind) ≡ false
    by true e = absurd (either (after_brace t.kind e))
    by false e = e

leaf_colon : (p : SyntaxKind) → leaf_kind_as p TOKEN_COLON ≡ TOKEN_COLON
leaf_colon NODE_IDENT = refl
leaf_colon NODE_CUR_POS = refl
leaf_colon _ = refl

leaf_at : (p : SyntaxKind) → leaf_kind_as p TOKEN_AT ≡ TOKEN_AT
leaf_at NODE_IDENT = refl
leaf_at NODE_CUR_POS = refl
leaf_at _ = refl

-- a node that is read has tokens
row_some : (k : SyntaxKind) → may_end (row k) ≡ false
row_some k = not_if (may_end (row k)) (every (λ k. if may_end (row k) then false else true) refl k)

some_read : {k : SyntaxKind} {d n : ℕ} {q s : Row} {b x : AnnotatedForest} {us : List Token} {es : List Fault} → Reads k d n q s b us x es → es ≡ []
    → may_end s ≡ true → may_end q ≡ false → AreSome (tokens_in x)
some_read end z e w = absurd (true_is_not_false (sym e ∙ w))
some_read (missing_part u t m o h) z e w = absurd (not_nil z)
some_read (wrong note ts x o v h) z e w = absurd (not_nil z)
some_read (second {c = x} {ds = ds} {es = es} hr over h) z e w = no_second ds (tokens_in x) es z
some_read (leaf x o h) z e w = tt
some_read {b = b} (inner {k = j} {c = x} {f = f} {ds = ds} {es = es} room hr over i o op h) z e w =
    some_first (tokens_in x) (tokens_in f)
    (some_read hr (none_remaining ds (repeats j b x) (none_remaining (ds ++ repeats j b x) es z)) over.0 (row_some j))

-- the items of a node do not begin with `:`, and if they begin with `@`, the node's first tree is no error node
abbrev IsNamedHead : SyntaxKind → AnnotatedForest → List Token → Type 0
IsNamedHead k x [] = Unit {0}
IsNamedHead k x (t ∷ ts) = (t.kind ≡ TOKEN_COLON → ⊥) × (t.kind ≡ TOKEN_AT → (f : AnnotatedForest) → first_tree (branch k x f) ≡ NODE_ERROR → ⊥)

no_colon : (k : SyntaxKind) → is_viable (after (row k) TOKEN_COLON) ≡ false
no_colon k = not_if (is_viable (after (row k) TOKEN_COLON)) (every (λ k. if is_viable (after (row k) TOKEN_COLON) then false else true) refl k)

bind_alone : (k : SyntaxKind) → is_viable (after (row k) TOKEN_AT) ≡ true → k ≡ NODE_PAT_BIND
bind_alone = only (λ k. is_viable (after (row k) TOKEN_AT)) NODE_PAT_BIND refl

bind_named : (k : SyntaxKind) → k ≡ NODE_PAT_BIND → (x f : AnnotatedForest) → first_tree (branch k x f) ≡ NODE_ERROR → ⊥
bind_named k e x f h = no_error (sym (ap (λ k. first_tree (branch k x f)) e) ∙ h)
  where
    no_error : NODE_PAT_BIND ≡ NODE_ERROR → ⊥
    no_error h = cc

no_error_row : (k : SyntaxKind) → has_row k ≡ true → k ≡ NODE_ERROR → ⊥
no_error_row k h e = true_is_not_false (sym h ∙ ap has_row e)

-- the first tree of a node whose first child is a node is no error node
node_named : (k j : SyntaxKind) (y g f : AnnotatedForest) → has_row k ≡ true → has_row j ≡ true
    → ((h : AnnotatedForest) → first_tree (branch j y h) ≡ NODE_ERROR → ⊥) → first_tree (branch k (branch j y g) f) ≡ NODE_ERROR → ⊥
node_named NODE_BIN_OP j y g f r s h e = h g e
node_named NODE_HAS_ATTR j y g f r s h e = h g e
node_named NODE_APPLY j y g f r s h e = h g e
node_named NODE_SELECT j y g f r s h e = h g e
node_named NODE_LAMBDA j y g f r s h e = no_error_row j s e
node_named k j y g f r s h e = no_error_row k r e

head_more : (k j : SyntaxKind) (y g : AnnotatedForest) (ts us : List Token) → has_row k ≡ true → has_row j ≡ true → AreSome ts → IsNamedHead j y ts
    → IsNamedHead k (branch j y g) (ts ++ us)
head_more k j y g [] us r s a h = absurd a
head_more k j y g (t ∷ ts) us r s a h = (h.0, λ e f. node_named k j y g f r s (h.1 e))

named_head : {k : SyntaxKind} {d n : ℕ} {q s : Row} {b x : AnnotatedForest} {us : List Token} {es : List Fault} → Reads k d n q s b us x es → es ≡ []
    → q ≡ row k → may_end s ≡ true → has_row k ≡ true → IsNamedHead k x (tokens_in x)
named_head end z e w r = tt
named_head (missing_part u t m o h) z e w r = absurd (not_nil z)
named_head (wrong note ts x o v h) z e w r = absurd (not_nil z)
named_head (second {c = x} {ds = ds} {es = es} hr over h) z e w r = no_second ds (tokens_in x) es z
named_head {k} {q = q} {s = s} (leaf {t = t} {f = f} x o h) z e w r =
    let v : is_viable (after (row k) (leaf_kind k t)) ≡ true = ap (λ q. is_viable (after q (leaf_kind k t))) (sym e) ∙ reads_viable h (end_viable s w) in (
      λ c. true_is_not_false (sym v ∙ ap (λ j. is_viable (after (row k) j)) (ap (leaf_kind_as k) c ∙ leaf_colon k) ∙ no_colon k),
      λ a g. bind_named k (bind_alone k (ap (λ j. is_viable (after (row k) j)) (sym (ap (leaf_kind_as k) a ∙ leaf_at k)) ∙ v)) (token (leaf_kind k t) t f) g,
    )
named_head {k} {b = b} (inner {k = j} {s = t} {c = y} {f = g} {ds = ds} {es = es} room hr over i o op h) z e w r =
    let none : ds ≡ [] = none_remaining ds (repeats j b y) (none_remaining (ds ++ repeats j b y) es z) in
    let own : has_row j ≡ true = reads_row hr over.0 in
    head_more k j y g (tokens_in y) (tokens_in g) r own (some_read hr none over.0 (row_some j)) (named_head hr none refl over.0 own)

-- no item that may follow a function as its argument makes a pattern of braces before it
follow_colonless : (next : Option SyntaxKind) (r : Row) (b : AnnotatedForest) → IsFollowed (Argument · r) b next → is_pattern (Some TOKEN_R_BRACE) next ≡ false
follow_colonless None r b h = refl
follow_colonless (Some k) r b h =
    not_if (is_pattern (Some TOKEN_R_BRACE) (Some k))
    (implied (λ k. is_fn_arg k || is_or k) (λ k. if is_pattern (Some TOKEN_R_BRACE) (Some k) then false else true) refl k
    (and_parts (is_fn_arg k || is_or k) (follows k b) h).0)

names_end : (r : Row) → is_colonless_row r ≡ true → (w : Bool) → (expects_item r w TOKEN_COLON ≡ false) × (expects_item r w TOKEN_AT ≡ false)
names_end r h true =
    let a = and_parts (if expects_item r true TOKEN_COLON then false else true) _ h in
    let b = and_parts (if expects_item r false TOKEN_COLON then false else true) _ a.1 in
    let c = and_parts (if expects_item r true TOKEN_AT then false else true) _ b.1 in
    (not_if (expects_item r true TOKEN_COLON) a.0, not_if (expects_item r true TOKEN_AT) c.0)
names_end r h false =
    let a = and_parts (if expects_item r true TOKEN_COLON then false else true) _ h in
    let b = and_parts (if expects_item r false TOKEN_COLON then false else true) _ a.1 in
    let c = and_parts (if expects_item r true TOKEN_AT then false else true) _ b.1 in
    (not_if (expects_item r false TOKEN_COLON) b.0, not_if (expects_item r false TOKEN_AT) c.1)

names_colonless : (r : Row) (n : ℕ) (ts : List Token) → is_colonless_row r ≡ true → expects (Names · r) n ts ≡ true → IsColonless ts
names_colonless r n [] h e = refl
names_colonless r n (t ∷ ts) h e =
    let w = names_end r h (nat_eq t.start n) in
    colonless_head t ts
    (λ c. true_is_not_false (sym (subst (λ k. (begins_attr k || expects_item r (nat_eq t.start n) k) ≡ true) c e) ∙ w.0))
    (λ a. true_is_not_false (sym (subst (λ k. (begins_attr k || expects_item r (nat_eq t.start n) k) ≡ true) a e) ∙ w.1))

operand_colonless : (level : ℕ) (j : SyntaxKind) (x : AnnotatedForest) (ts us : List Token) → AreSome ts → IsNamedHead j x ts
    → BeginsAs level (one_branch j x) ((ts ++ []) ++ us) → IsColonless (ts ++ us)
operand_colonless level j x [] us a h b = absurd a
operand_colonless level j x (t ∷ ts) us a h b =
    colonless_head t (ts ++ us) h.0
    (λ e. h.1 e blank (sym b ∙ ap (λ k. first_kind level k t.text (head_kind ((ts ++ []) ++ us)) (second_kind ((ts ++ []) ++ us))) e))

node_colonless : (r : Row) (b : AnnotatedForest) (j : SyntaxKind) (x : AnnotatedForest) (n : ℕ) (us : List Token) → has_colonless_nodes r ≡ true
    → has_row j ≡ true
    → is_viable (after r j) ≡ true → IsExpected r n (tokens_in x ++ us) (is_first_expected r j x) → IsFollowed r b (head_kind (tokens_in x ++ us))
    → IsOperandOf (level_at r (one_branch j x)) (one_branch j x) us → AreSome (tokens_in x) → IsNamedHead j x (tokens_in x) → IsColonless (tokens_in x ++ us)
node_colonless (Argument · r) b j x n us h own v i o op some named = follow_colonless (head_kind (tokens_in x ++ us)) r b o
node_colonless (Names · r) b j x n us h own v i o op some named = names_colonless r n (tokens_in x ++ us) h i
node_colonless (Many level closer · r) b j x n us h own v i o op some named = operand_colonless level j x (tokens_in x) us some named op.1
node_colonless r b j x n us h own v i o op some named =
    absurd (true_is_not_false (sym (implied (λ j. has_row j && is_viable (after r j)) (λ j. false) h j (and_from (has_row j) (is_viable (after r j)) own v))))

-- after a node that may end with a bracket, what comes next in the row begins with neither `:` nor `@`
next_colonless : {p : SyntaxKind} {d n : ℕ} {r q' : Row} {b f : AnnotatedForest} {us : List Token} {es : List Fault} → Reads p d n r q' b us f es → es ≡ []
    → GoesColonless p r → may_end q' ≡ true → (may_end_bracketed p ≡ true → IsColonless us) → IsColonless (tokens_in f ++ us)
next_colonless end z g e c = c (g.ends e)
next_colonless (missing_part u t m o h) z g e c = absurd (not_nil z)
next_colonless (wrong note ts x o v h) z g e c = absurd (not_nil z)
next_colonless (second {c = x} {ds = ds} {es = es} hr over h) z g e c = no_second ds (tokens_in x) es z
next_colonless {p} {r = r} {q' = q'} {us = us} (leaf {t = t} {f = f} x o h) z g e c =
    let v : is_viable (after r (leaf_kind p t)) ≡ true = reads_viable h (end_viable q' e) in
    colonless_head t (tokens_in f ++ us)
    (λ k. true_is_not_false (sym v ∙ ap (λ j. is_viable (after r j)) (ap (leaf_kind_as p) k ∙ leaf_colon p) ∙ g.colon))
    (λ k. true_is_not_false (sym v ∙ ap (λ j. is_viable (after r j)) (ap (leaf_kind_as p) k ∙ leaf_at p) ∙ g.at))
next_colonless {n = n} {r = r} {q' = q'} {b = b} {us = us} (inner {k = j} {c = x} {f = f} {ds = ds} {es = es} room hr over i o op h) z g e c =
    let none : ds ≡ [] = none_remaining ds (repeats j b x) (none_remaining (ds ++ repeats j b x) es z) in
    let own : has_row j ≡ true = reads_row hr over.0 in
    subst IsColonless (sym (append_assoc (tokens_in x) (tokens_in f) us))
    (node_colonless r b j x n (tokens_in f ++ us) g.nodes own (reads_viable h (end_viable q' e)) i o op (some_read hr none over.0 (row_some j))
    (named_head hr none refl over.0 own))

-- so neither `:` nor `@` follows a bracketed node
pub colonless_after : {k l r : SyntaxKind} (w : IsBracketed k l r) {c e : AnnotatedForest} {p : SyntaxKind} {d n : ℕ} {q q' : Row} {b f g : AnnotatedForest}
    {us : List Token} {es : List Fault} → Reads p d n q q' b us f es → es ≡ [] → IsKnown p q → may_end q' ≡ true
    → (may_end_bracketed p ≡ true → IsColonless us) → (s : Swapped k c e f g) → IsColonlessAfter s us
colonless_after w end z known v colonless s = elim s [ ]
colonless_after w (missing_part u t o y h) z known v colonless s = absurd (not_nil z)
colonless_after w (wrong note ts x o y h) z known v colonless s = absurd (not_nil z)
colonless_after w (second {c = x} {ds = ds} {es = es} hr over h) z known v colonless s = no_second ds (tokens_in x) es z
colonless_after w {p = p} (leaf {t = t} x o h) z known v colonless (past_token s) = colonless_after w h z (known_after (leaf_kind p t) known) v colonless s
colonless_after {k} w {q = q} {q' = q'} {b = b} (inner {c = x} {ds = ds} {es = es} room hr over i o op h) z known v colonless here =
    next_colonless h (none_right (ds ++ repeats k b x) es z) (colonless_behind q k known (bracketed_end w) (reads_viable h (end_viable q' v))) v colonless
colonless_after w {q = q} {q' = q'} {b = b} (inner {k = j} {c = x} {ds = ds} {es = es} room hr over i o op h) z known v colonless (inside s) =
    colonless_after w hr (none_remaining ds (repeats j b x) (none_remaining (ds ++ repeats j b x) es z)) (known_row j) over.0
    (λ may. next_colonless h (none_right (ds ++ repeats j b x) es z) (colonless_behind q j known may (reads_viable h (end_viable q' v))) v colonless) s
colonless_after w {b = b} (inner {k = j} {c = x} {ds = ds} {es = es} room hr over i o op h) z known v colonless (past_branch s) =
    colonless_after w h (none_right (ds ++ repeats j b x) es z) (known_after j known) v colonless s
