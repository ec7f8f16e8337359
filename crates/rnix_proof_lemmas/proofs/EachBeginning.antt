-- What holds of the first tree of each operand, by the first items, is shown by one computation over all kinds.
use Rattle.std.{specs.Option.is_some, proofs.Common.{◌≡◌, ℕ, ◌≤◌, Bool, true, false, List, [], Option, Some, None, refl, sym, subst, arith, if◌then◌else◌, nat_le, nat_eq}}
use Rattle.std.proofs.lemmas.Bool.Decides.{nat_tests}
use Rattle.rnix_kinds.{specs.declared.kinds.SyntaxKind.{SyntaxKind}, proofs.AllKinds.{all_kinds}}
use Rattle.rnix_kinds.specs.declared.kinds.SyntaxKind.TheVariants.{TOKEN_IDENT, TOKEN_COLON, TOKEN_AT, TOKEN_L_BRACE, TOKEN_LET, TOKEN_INVERT, TOKEN_SUB, TOKEN_REC}
use Rattle.rnix_kinds.specs.declared.kinds.SyntaxKind.TheVariants.{NODE_IDENT_PARAM, NODE_PATTERN, NODE_CUR_POS, NODE_LEGACY_LET, NODE_ATTR_SET, NODE_UNARY_OP, NODE_ERROR}
use Rattle.rnix_grammar.specs.{Tables.is_cur_pos, OperandStarts.{is_pattern, first_kind_of_name, first_kind_of_let, kind_if, first_kind, operand_start_for}, NodeClasses.is_keyword_expression}
use Rattle.rnix_proof_lemmas.proofs.{Basics.{choice, Where}, EachKind.{Each, each_kind}, LevelLemmas.at_most}
use Rattle.rnix_grammar.specs.declared.operand_start.OperandStart.{OperandStart}
use Rattle.rnix_grammar.specs.declared.operand_start.OperandStart.TheVariants as b

-- a property of the first tree that a token begins, alone or with the next items, where any expression may begin
abbrev pub EachFirst : (SyntaxKind → Option SyntaxKind → SyntaxKind → Type 0) → Option SyntaxKind → Type 0
EachFirst P next =
    P TOKEN_IDENT (Some TOKEN_COLON) NODE_IDENT_PARAM × P TOKEN_IDENT (Some TOKEN_AT) NODE_PATTERN × P TOKEN_IDENT next NODE_CUR_POS
    × P TOKEN_L_BRACE next NODE_PATTERN × P TOKEN_LET (Some TOKEN_L_BRACE) NODE_LEGACY_LET × Each (λ i. P i next (first_kind 0 i [] None None)) all_kinds

module _ (P : SyntaxKind → Option SyntaxKind → SyntaxKind → Type 0) (h : (next : Option SyntaxKind) → EachFirst P next) where
  alone : (i : SyntaxKind) (next : Option SyntaxKind) → P i next (first_kind 0 i [] None None)
  alone i next = each_kind (λ i. P i next (first_kind 0 i [] None None)) ((h next).5) i

  name : (text : List ℕ) (next : Option SyntaxKind) → P TOKEN_IDENT next (first_kind_of_name text next)
  name text (Some TOKEN_COLON) = (h None).0
  name text (Some TOKEN_AT) = (h None).1
  name text next = choice (P TOKEN_IDENT next) (is_cur_pos text) (h next).2 (alone TOKEN_IDENT next)

  let_alone : (next : Option SyntaxKind) → P TOKEN_LET next (first_kind_of_let next)
  let_alone (Some TOKEN_L_BRACE) = (h None).4
  let_alone next = alone TOKEN_LET next

  -- then it holds of the first tree for all first items there
  pub each_first : (i : SyntaxKind) (text : List ℕ) (second third : Option SyntaxKind) → P i second (first_kind 0 i text second third)
  each_first TOKEN_IDENT text second third = name text second
  each_first TOKEN_L_BRACE text second third = choice (P TOKEN_L_BRACE second) (is_pattern second third) (h second).3 (alone TOKEN_L_BRACE second)
  each_first TOKEN_LET text second third = let_alone second
  each_first i text second third = alone i second

-- the highest level at which a token begins an operand; none if it does so at every level
abbrev pub highest : SyntaxKind → Option ℕ
highest TOKEN_INVERT = Some 9
highest TOKEN_SUB = Some 14
highest i = if is_keyword_expression (first_kind 0 i [] None None) then Some 0 else None

-- the kind of the first tree of an operand, up to a highest level
abbrev pub kind_up_to : Option ℕ → ℕ → SyntaxKind → SyntaxKind
kind_up_to None level k = k
kind_up_to (Some n) level k = kind_if (nat_le level n) k

-- a level is at most the lowest exactly if it is the lowest
lowest : (level : ℕ) (k : SyntaxKind) → kind_if (nat_eq level 0) k ≡ kind_if (nat_le level 0) k
lowest level k = by (nat_eq level 0) (nat_le level 0) refl refl
  where
    by : (v w : Bool) → nat_eq level 0 ≡ v → nat_le level 0 ≡ w → kind_if v k ≡ kind_if w k
    by true true e f = refl
    by false false e f = refl
    by true false e f = absurd (grind (arith, nat_tests, e, f))
    by false true e f = absurd (grind (arith, nat_tests, e, f))

-- what begins an operand of a level is what begins an expression, or nothing
pub first_up_to : (level : ℕ) (i : SyntaxKind) (text : List ℕ) (second third : Option SyntaxKind)
    → first_kind level i text second third ≡ kind_up_to (highest i) level (first_kind 0 i text second third)
first_up_to level TOKEN_LET text second third = lowest level (first_kind_of_let second)
first_up_to level i text second third = first_of (assumption, search lowest)

-- a level is at most the highest allowed one, if there is one
abbrev pub IsUpTo : Option ℕ → ℕ → Type 0
IsUpTo None level = Unit {0}
IsUpTo (Some n) level = level ≤ n

-- the kind that is begun has a property if error nodes have it, and the kind has it where the test is true
tested : (P : SyntaxKind → Type 0) (w : Bool) (k : SyntaxKind) → (w ≡ true → P k) → P NODE_ERROR → P (kind_if w k)
tested P true k h e = h refl
tested P false k h e = e

-- the kind that begins an operand has a property if error nodes have it, and the kind that begins an expression has it where its level is allowed
pub where_allowed : (P : SyntaxKind → Type 0) (level : ℕ) (i : SyntaxKind) (text : List ℕ) (second third : Option SyntaxKind)
    → (IsUpTo (highest i) level → P (first_kind 0 i text second third)) → Where (is_some (highest i)) (P NODE_ERROR) → P (first_kind level i text second third)
where_allowed P level i text second third h e = subst P (sym (first_up_to level i text second third)) (by (highest i) h e)
  where
    k : SyntaxKind
    k = first_kind 0 i text second third

    by : (o : Option ℕ) → (IsUpTo o level → P k) → Where (is_some o) (P NODE_ERROR) → P (kind_up_to o level k)
    by None h e = h tt
    by (Some n) h e = tested P (nat_le level n) k (λ l. h (at_most level n l)) e

-- a property that one computation over all kinds shows of each first tree is one of the first tree of each operand
pub each_first_tree : (P : SyntaxKind → Option SyntaxKind → SyntaxKind → Type 0)
    → ((next : Option SyntaxKind) → EachFirst (λ i next k. P i next k × Where (is_some (highest i)) (P i next NODE_ERROR)) next)
    → (level : ℕ) (i : SyntaxKind) (text : List ℕ) (second third : Option SyntaxKind) → P i second (first_kind level i text second third)
each_first_tree P h level i text second third =
    let w = each_first (λ i next k. P i next k × Where (is_some (highest i)) (P i next NODE_ERROR)) h i text second third in
    where_allowed (P i second) level i text second third (λ l. w.0) w.1

-- the kind of the first tree, by how the reader begins it
abbrev pub kind_of : OperandStart → SyntaxKind
kind_of (b.Leaf k) = k
kind_of (b.Node k slot max_bp) = k
kind_of b.LegacyLet = NODE_LEGACY_LET
kind_of b.NameLambda = NODE_IDENT_PARAM
kind_of b.BoundLambda = NODE_PATTERN
kind_of b.PatternLambda = NODE_PATTERN
kind_of b.Stray = NODE_ERROR

-- what begins a tree of a kind has that kind
pub kind_of_begin : (k i : SyntaxKind) → kind_of (operand_start_for k i) ≡ k
kind_of_begin NODE_ATTR_SET TOKEN_REC = refl
kind_of_begin NODE_ATTR_SET _ = refl
kind_of_begin NODE_UNARY_OP TOKEN_INVERT = refl
kind_of_begin NODE_UNARY_OP _ = refl
kind_of_begin NODE_PATTERN TOKEN_IDENT = refl
kind_of_begin NODE_PATTERN _ = refl
kind_of_begin _ i = refl
