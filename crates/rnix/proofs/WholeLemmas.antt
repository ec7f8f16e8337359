-- The parts of a node whose children are its row.
use Rattle.std.proofs.{Common.{◌≡◌, ℕ, suc, Bool, true, false, cond, List, [], ◌∷◌, Option, Some, None, refl, ap, sym, ◌∙◌}, lemmas.Bool.and_parts}
use Rattle.std.specs.Prelude.{◌&&◌, ◌||◌, if◌then◌else◌, not, is_some, IsSome, slice_get, filter, find, option_map}
use Rattle.rnix_kinds.{specs.{declared.kinds.SyntaxKind.SyntaxKind, SyntaxKind.{is_token, is_trivia}}, proofs.AllKinds.implied}
use Rattle.{rnix_green.specs.{Equality.same_kind, Tree.{Located, item_of}, Walk.children_of}, rnix_base.specs.{Kinds.is_path_token, Select.has_kind}}
use Rattle.rnix_base.specs.{Select.{tokens_in, child_of, token_of}, TokenOperators.{or_else, first_operator, binary_operator, unary_operator}, Literal.first_literal}
use Rattle.{rnix_grammar.specs.CompleteRows.is_row, rnix_proof_lemmas.proofs.Basics.{true_is_not_false, not_if}, rnix_proof_rows.proofs.RowCounts.{row_has, row_first, row_nth}}
use Rattle.{rnix_proof_rows.proofs.RowCounts.row_is, rnix.specs.{NodeKinds.{is_expr, is_param}, Presence.{HasToken, HasNode, HasExpr, AreTogether}}}
use Rattle.rnix.proofs.ChildKinds.{AreItems, AreNodes, exact_items, exact_nodes, Sees}
use Rattle.rnix_kinds.specs.declared.kinds.SyntaxKind.TheVariants as k
use Rattle.rnix_base.specs.declared.literal.LiteralKind.TheVariants as literal

-- expressions and parameters are nodes
expr_nodes : AreNodes is_expr
expr_nodes j h = not_if (is_token j) (implied is_expr (λ j. if is_token j then false else true) refl j h)

param_nodes : AreNodes is_param
param_nodes j h = not_if (is_token j) (implied is_param (λ j. if is_token j then false else true) refl j h)

-- operators and the contents of paths are tokens, and no trivia
abbrev is_infix : SyntaxKind → Bool
is_infix kind = is_some (binary_operator kind)

abbrev is_prefix : SyntaxKind → Bool
is_prefix kind = is_some (unary_operator kind)

infix_items : AreItems is_infix
infix_items =
    record { token = implied is_infix is_token refl; item = λ j h. not_if (is_trivia j) (implied is_infix (λ j. if is_trivia j then false else true) refl j h) }

prefix_items : AreItems is_prefix
prefix_items = record {
  token = implied is_prefix is_token refl;
  item = λ j h. not_if (is_trivia j) (implied is_prefix (λ j. if is_trivia j then false else true) refl j h);
}

path_items : AreItems is_path_token
path_items = record {
  token = implied is_path_token is_token refl;
  item = λ j h. not_if (is_trivia j) (implied is_path_token (λ j. if is_trivia j then false else true) refl j h);
}

-- an operator is found by its token
operator_found : {A : Type 0} (operator : SyntaxKind → Option A) (ts : List Located) → is_some (find (has_kind (λ kind. is_some (operator kind))) ts) ≡ true
    → is_some (first_operator operator ts) ≡ true
operator_found operator [] h = absurd (true_is_not_false (sym h))
operator_found {A = A} operator (t ∷ ts) h = operator_cases (operator (item_of t).kind) h (operator_found operator ts)
  where
    operator_cases : (o : Option A) → is_some (cond (is_some o) (Some t) (find (has_kind (λ kind. is_some (operator kind))) ts)) ≡ true
        → (is_some (find (has_kind (λ kind. is_some (operator kind))) ts) ≡ true → is_some (first_operator operator ts) ≡ true)
        → is_some (or_else o (first_operator operator ts)) ≡ true
    operator_cases (Some a) h ih = refl
    operator_cases None h ih = ih h

-- a literal is found by one of its tokens
literal_found : (a b c : Option Located)
    → is_some (or_else (option_map literal.Float a) (or_else (option_map literal.Integer b) (option_map literal.Uri c))) ≡
    (is_some a || (is_some b || is_some c))
literal_found (Some a) b c = refl
literal_found None (Some b) c = refl
literal_found None None (Some c) = refl
literal_found None None None = refl

abbrev has_literal : List SyntaxKind → Bool
has_literal ks = is_some (find (same_kind k.TOKEN_FLOAT) ks) || (is_some (find (same_kind k.TOKEN_INTEGER) ks) || is_some (find (same_kind k.TOKEN_URI) ks))

-- a row has a token of the kind exactly if it has a second expression
abbrev are_together : SyntaxKind → List SyntaxKind → Bool
are_together x ks = if is_some (find (same_kind x) ks) then is_some (slice_get (filter is_expr ks) 1) else not (is_some (slice_get (filter is_expr ks) 1))

both_or_none : (v w : Bool) → (if v then w else not w) ≡ true → v ≡ w
both_or_none true true h = refl
both_or_none true false h = absurd (true_is_not_false (sym h))
both_or_none false true h = absurd (true_is_not_false (sym h))
both_or_none false false h = refl

-- every row of the kind has the token; the next test is for nodes
abbrev asks_token : SyntaxKind → SyntaxKind → Bool
asks_token kind x = is_token x && (not (is_trivia x) && row_has (same_kind x) 1 kind)

abbrev asks_node : SyntaxKind → SyntaxKind → Bool
asks_node kind x = not (is_token x) && row_has (same_kind x) 1 kind

not_true : (w : Bool) → not w ≡ true → w ≡ false
not_true false h = refl
not_true true h = absurd (true_is_not_false (sym h))

-- the children of a node are a row of its kind
pub record RowSeen (kind : SyntaxKind) (n : Located) : Type 0 where
  pub kinds : List SyntaxKind
  pub sees : Sees n kinds
  pub row : is_row kind kinds ≡ true

-- each part that every row of the kind has is found
pub token : {kind : SyntaxKind} {n : Located} → RowSeen kind n → (x : SyntaxKind) → asks_token kind x ≡ true → HasToken x n
token {kind} h x asked =
    let a = and_parts (is_token x) (not (is_trivia x) && row_has (same_kind x) 1 kind) asked in
    let b = and_parts (not (is_trivia x)) (row_has (same_kind x) 1 kind) a.1 in
    h.sees.tokens (same_kind x) (exact_items x a.0 (not_true (is_trivia x) b.0)) ∙ row_first kind h.kinds (same_kind x) b.1 h.row

pub expr : {kind : SyntaxKind} {n : Located} → RowSeen kind n → (number : ℕ) → row_has is_expr (suc number) kind ≡ true → HasExpr number n
expr {kind} h number asked = h.sees.nodes is_expr expr_nodes number ∙ row_nth kind h.kinds is_expr number asked h.row

pub child : {kind : SyntaxKind} {n : Located} → RowSeen kind n → (x : SyntaxKind) → asks_node kind x ≡ true → HasNode x n
child {kind} h x asked =
    let a = and_parts (not (is_token x)) (row_has (same_kind x) 1 kind) asked in
    h.sees.nodes (same_kind x) (exact_nodes x (not_true (is_token x) a.0)) 0 ∙ row_nth kind h.kinds (same_kind x) 0 a.1 h.row

-- a function's parameter, operators, a path's content and a literal's token are found
pub lambda_param : {n : Located} → RowSeen k.NODE_LAMBDA n → IsSome (child_of is_param 0 n)
lambda_param h = h.sees.nodes is_param param_nodes 0 ∙ row_nth k.NODE_LAMBDA h.kinds is_param 0 refl h.row

pub bin_op_operator : {n : Located} → RowSeen k.NODE_BIN_OP n → IsSome (first_operator binary_operator (tokens_in (children_of n)))
bin_op_operator {n} h =
    operator_found binary_operator (tokens_in (children_of n)) (h.sees.tokens is_infix infix_items ∙ row_first k.NODE_BIN_OP h.kinds is_infix refl h.row)

pub unary_op_operator : {n : Located} → RowSeen k.NODE_UNARY_OP n → IsSome (first_operator unary_operator (tokens_in (children_of n)))
unary_op_operator {n} h =
    operator_found unary_operator (tokens_in (children_of n)) (h.sees.tokens is_prefix prefix_items ∙ row_first k.NODE_UNARY_OP h.kinds is_prefix refl h.row)

pub path_search_content : {n : Located} → RowSeen k.NODE_PATH_SEARCH n → IsSome (token_of is_path_token n)
path_search_content h = h.sees.tokens is_path_token path_items ∙ row_first k.NODE_PATH_SEARCH h.kinds is_path_token refl h.row

pub literal_kind : {n : Located} → RowSeen k.NODE_LITERAL n → IsSome (first_literal n)
literal_kind {n} h =
    let seen : (x : SyntaxKind) → is_token x ≡ true → is_trivia x ≡ false → is_some (token_of (same_kind x) n) ≡ is_some (find (same_kind x) h.kinds) =
    λ x t i. h.sees.tokens (same_kind x) (exact_items x t i) in
    literal_found (token_of (same_kind k.TOKEN_FLOAT) n) (token_of (same_kind k.TOKEN_INTEGER) n) (token_of (same_kind k.TOKEN_URI) n)
    ∙ ap (λ v. v || (is_some (token_of (same_kind k.TOKEN_INTEGER) n) || is_some (token_of (same_kind k.TOKEN_URI) n))) (seen k.TOKEN_FLOAT refl refl)
    ∙ ap (λ v. is_some (find (same_kind k.TOKEN_FLOAT) h.kinds) || (v || is_some (token_of (same_kind k.TOKEN_URI) n))) (seen k.TOKEN_INTEGER refl refl)
    ∙ ap (λ v. is_some (find (same_kind k.TOKEN_FLOAT) h.kinds) || (is_some (find (same_kind k.TOKEN_INTEGER) h.kinds) || v)) (seen k.TOKEN_URI refl refl)
    ∙ row_is k.NODE_LITERAL has_literal refl h.kinds h.row

-- a default is found exactly if its sign is
default : {kind : SyntaxKind} {n : Located} → RowSeen kind n → (x : SyntaxKind) → is_token x ≡ true → is_trivia x ≡ false
    → ((ks : List SyntaxKind) → is_row kind ks ≡ true → are_together x ks ≡ true) → AreTogether (token_of (same_kind x) n) (child_of is_expr 1 n)
default h x t i together =
    h.sees.tokens (same_kind x) (exact_items x t i)
    ∙ both_or_none (is_some (find (same_kind x) h.kinds)) (is_some (slice_get (filter is_expr h.kinds) 1)) (together h.kinds h.row)
    ∙ sym (h.sees.nodes is_expr expr_nodes 1)

pub pat_entry_default : {n : Located} → RowSeen k.NODE_PAT_ENTRY n → AreTogether (token_of (same_kind k.TOKEN_QUESTION) n) (child_of is_expr 1 n)
pat_entry_default h = default h k.TOKEN_QUESTION refl refl (row_is k.NODE_PAT_ENTRY (are_together k.TOKEN_QUESTION) refl)

pub select_default_expr : {n : Located} → RowSeen k.NODE_SELECT n → AreTogether (token_of (same_kind k.TOKEN_OR) n) (child_of is_expr 1 n)
select_default_expr h = default h k.TOKEN_OR refl refl (row_is k.NODE_SELECT (are_together k.TOKEN_OR) refl)
