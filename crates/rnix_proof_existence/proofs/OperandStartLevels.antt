-- How an operand begins: its first tree, and what may continue it.
use Rattle.std.{specs.List.list_all, proofs.{lemmas.Bool.and_parts, Common.{◌≡◌, ℕ, ◌≤◌, Bool, true, false, List, Option, Some, refl, ap, sym, ◌∙◌, arith}}}
use Rattle.{std.proofs.Common.{if◌then◌else◌, nat_le, ◌&&◌}, rnix_kinds.specs.declared.kinds.SyntaxKind.{SyntaxKind, TheVariants.TOKEN_IDENT}}
use Rattle.rnix_kinds.specs.declared.kinds.SyntaxKind.TheVariants.{TOKEN_L_BRACE, TOKEN_AT, TOKEN_LET, TOKEN_INVERT, NODE_APPLY}
use Rattle.rnix_kinds.specs.declared.kinds.SyntaxKind.TheVariants.{NODE_BIN_OP, NODE_HAS_ATTR, NODE_IDENT, NODE_SELECT, NODE_UNARY_OP}
use Rattle.{rnix_kinds.proofs.AllKinds.{all_kinds, implied}, rnix_green.specs.Equality.same_kind, rnix_grammar.specs.declared.operand_start.OperandStart.OperandStart}
use Rattle.rnix_grammar.specs.OperandStarts.{operand_start_for}
use Rattle.rnix_grammar.specs.{OperandStarts.operand_start_of, TokenKinds.is_or, Operands.first_tree, Rules.{after, done, row as row_of_kind}}
use Rattle.rnix_grammar.specs.{AnnotatedForest.{Token, AnnotatedForest, token, one_token, one_branch, leaf_kind_as}, NodeClasses.{is_atom, is_expression}}
use Rattle.{rnix_grammar.specs.{NodeClasses.{is_keyword_expression, fits}, TreeLevels.{row_level, is_or_row}}, rnix_proof_lemmas.specs.Machine.Node}
use Rattle.rnix_proof_lemmas.{specs.SlotRows.remaining_at, proofs.{Basics.{true_is_not_false, not_if}, LevelLemmas.at_most}}
use Rattle.rnix_proof_lemmas.proofs.{KindsOfNodes.is_error, RowParts.{IsFront, front, is_front}, FollowLemmas.{followed_by, is_followed}}
use Rattle.rnix_proof_existence.proofs.{Frames.{is_in_row_of, is_sound}, Growing.{MayGrow, no_name, grows_by}}
use Rattle.rnix_proof_lemmas.proofs.{Basics.where_any, EachBeginning.{highest, IsUpTo, each_first, where_allowed}}
use Rattle.std.{specs.Option.is_some, proofs.Common.None}
use Rattle.rnix_grammar.specs.declared.position.Position.TheVariants as p
use Rattle.rnix_grammar.specs.declared.operand_start.OperandStart.TheVariants as b

-- the kinds of operands that begin with a token
abbrev is_begun : SyntaxKind → Bool
is_begun NODE_APPLY = false
is_begun NODE_BIN_OP = false
is_begun NODE_HAS_ATTR = false
is_begun NODE_SELECT = false
is_begun k = is_expression k

-- the row of such a node begins with a child on which it puts no conditions
pub begun_front : (k : SyntaxKind) → is_begun k ≡ true → IsFront (row_of_kind k)
begun_front k h = front (row_of_kind k) (implied is_begun (λ j. is_front (row_of_kind j)) refl k h)

-- such a node is its own first tree
pub own_first : (k j : SyntaxKind) (t : Token) (r : AnnotatedForest) → is_begun k ≡ true → first_tree (one_branch k (token j t r)) ≡ k
own_first NODE_APPLY j t r h = absurd (true_is_not_false (sym h))
own_first _ j t r h = cc

-- the level of such a node, which for a prefix operator depends on whether it is `!`
abbrev own_level : Bool → SyntaxKind → ℕ
own_level inverts NODE_UNARY_OP = if inverts then 9 else 14
own_level inverts k = if is_keyword_expression k then 0 else 16

-- the highest level of what may continue such a node
abbrev max_bp_at : Bool → SyntaxKind → ℕ
max_bp_at inverts NODE_UNARY_OP = if inverts then 8 else 13
max_bp_at inverts k = own_level inverts k

-- such a node fits its level, and what may continue it binds no tighter
abbrev grows_so : Bool → SyntaxKind → Bool
grows_so inverts k =
    fits (own_level inverts k) k && (nat_le (max_bp_at inverts k) (own_level inverts k) && list_all
    (is_followed (own_level inverts k) (is_atom k) (max_bp_at inverts k)) all_kinds)

each_grows : (inverts : Bool) (k : SyntaxKind) → is_begun k ≡ true → grows_so inverts k ≡ true
each_grows true = implied is_begun (grows_so true) refl
each_grows false = implied is_begun (grows_so false) refl

-- the item is `!`
abbrev inverts : SyntaxKind → Bool
inverts kind = same_kind kind TOKEN_INVERT

-- what is known of the first items and of the tree that begins with them: an atom of one item, or a node that is no looser than the level
abbrev pub BeginsTree : OperandStart → ℕ → SyntaxKind → Option SyntaxKind → Type 0
BeginsTree (b.Leaf k) level kind second =
    (after (row_of_kind k) (leaf_kind_as k kind) ≡ done) × (is_begun k ≡ true) × (is_atom k ≡ true) × ((if is_error k then is_or kind else false) ≡ false)
BeginsTree (b.Node k z max_bp) level kind second =
    (after (row_of_kind k) (leaf_kind_as k kind) ≡ remaining_at z) × (is_begun k ≡ true) × (level ≤ own_level (inverts kind) k) × (is_sound (Node k) ≡ true) ×
    (is_in_row_of (p.InRow z) k ≡ true) × (max_bp_at (inverts kind) k ≡ max_bp)
BeginsTree b.LegacyLet level kind second = (kind ≡ TOKEN_LET) × (second ≡ Some TOKEN_L_BRACE) × (level ≡ 0)
BeginsTree b.NameLambda level kind second = kind ≡ TOKEN_IDENT
BeginsTree b.BoundLambda level kind second = (kind ≡ TOKEN_IDENT) × (second ≡ Some TOKEN_AT)
BeginsTree b.PatternLambda level kind second = kind ≡ TOKEN_L_BRACE
BeginsTree b.Stray level kind second = Unit {0}

-- a node over one token is not the name `or`, if its leaf keeps the token's kind or the token is not `or`
pub leaf_no_or : (k j : SyntaxKind) (t : Token) → (if is_error k then is_or t.kind else false) ≡ false → is_or_row (one_branch k (one_token j t)) ≡ false
leaf_no_or NODE_IDENT j t h = h
leaf_no_or _ j t h = refl

tight : (k kind : SyntaxKind) (t : Token) (r : AnnotatedForest) → is_begun k ≡ true
    → row_level (one_branch k (token (leaf_kind_as k kind) t r)) ≡ own_level (inverts kind) k
tight NODE_UNARY_OP TOKEN_INVERT t r h = refl
tight NODE_UNARY_OP _ t r h = refl
tight _ kind t r h = cc

-- a node that begins so may be an operand of each level that is no tighter than its own
pub begun_grows : (k kind : SyntaxKind) (level : ℕ) (t : Token) (r : AnnotatedForest) → is_begun k ≡ true → level ≤ own_level (inverts kind) k
    → is_sound (Node k) ≡ true
    → MayGrow level (max_bp_at (inverts kind) k) (one_branch k (token (leaf_kind_as k kind) t r))
begun_grows k kind level t r o l sound =
    let c : AnnotatedForest = token (leaf_kind_as k kind) t r in
    let e : row_level (one_branch k c) ≡ own_level (inverts kind) k = tight k kind t r o in
    let q = and_parts _ _ (each_grows (inverts kind) k o) in
    let z = and_parts _ _ q.1 in
    let max_bp : max_bp_at (inverts kind) k ≤ own_level (inverts kind) k = at_most _ _ z.0 in
    grows_by level (max_bp_at (inverts kind) k) (one_branch k c) (ap (λ n. fits n k) e ∙ q.0) (omega (arith, e, l)) (omega (arith, e, max_bp))
    (followed_by (own_level (inverts kind) k) (is_atom k) (max_bp_at (inverts kind) k) z.1 (one_branch k c) e refl) (no_name k c (not_if (is_error k) sound))

-- what begins at a level begins at each looser one
looser : (how : OperandStart) (level n : ℕ) (kind : SyntaxKind) (second : Option SyntaxKind) → level ≤ n → BeginsTree how n kind second
    → BeginsTree how level kind second
looser (b.Node k z max_bp) level n kind second l h = (h.0, h.1, omega (arith, l, h.2), h.3, h.4, h.5)
looser b.LegacyLet level n kind second l h = (h.0, h.1, omega (arith, l, h.2))
looser how level n kind second l h = h

-- the highest level at which an item begins an operand
abbrev top : Option ℕ → ℕ
top None = 16
top (Some n) = n

-- no allowed level is higher
up_to_top : (o : Option ℕ) (level : ℕ) → level ≤ 16 → IsUpTo o level → level ≤ top o
up_to_top None level l a = l
up_to_top (Some n) level l a = a

at_most_itself : (n : ℕ) → n ≤ n
at_most_itself n = omega arith

-- the action of the table gives what is known of the tree that begins
pub begun_tree : (level : ℕ) (kind : SyntaxKind) (text : List ℕ) (second third : Option SyntaxKind) → level ≤ 16
    → BeginsTree (operand_start_of level kind text second third) level kind second
begun_tree level kind text second third l =
    where_allowed (λ k. BeginsTree (operand_start_for k kind) level kind second) level kind text second third
    (λ a. looser (operand_start_of 0 kind text second third) level (top (highest kind)) kind second (up_to_top (highest kind) level l a)
    (each_first (λ kind next k. BeginsTree (operand_start_for k kind) (top (highest kind)) kind next)
    (λ next. assumption (at_most_itself 0, at_most_itself 9, at_most_itself 14, at_most_itself 16)) kind text second third))
    (where_any (is_some (highest kind)) tt)
