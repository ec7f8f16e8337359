-- The levels of precedence: the binary operators have 1 to 8 and 10 to 12, the other levels have names here.
use Rattle.std.specs.Prelude.{ℕ, suc, ◌-◌, Option, Some, None, if◌then◌else◌}
use Rattle.rnix_kinds.specs.declared.kinds.SyntaxKind.{SyntaxKind}
use Rattle.rnix_kinds.specs.declared.kinds.SyntaxKind.TheVariants.{TOKEN_PIPE_LEFT, TOKEN_PIPE_RIGHT, TOKEN_IMPLICATION, TOKEN_OR_OR, TOKEN_AND_AND, TOKEN_EQUAL, TOKEN_NOT_EQUAL, TOKEN_LESS, TOKEN_LESS_OR_EQ, TOKEN_MORE, TOKEN_MORE_OR_EQ, TOKEN_UPDATE, TOKEN_ADD, TOKEN_SUB, TOKEN_MUL, TOKEN_DIV, TOKEN_CONCAT, TOKEN_QUESTION, TOKEN_DOT, TOKEN_OR}
use Rattle.rnix_kinds.specs.SyntaxKind.{is_fn_arg}
use Rattle.rnix_grammar.specs.declared.level.Associativity.{Associativity}
use Rattle.rnix_grammar.specs.declared.level.Associativity.TheVariants.{Left, Right, Neither}

-- any expression is allowed at this level
abbrev pub expression_level : ℕ
expression_level = 0

-- a level that no operator has: that of tokens that end an expression, and the highest allowed after an expression that extends as far as possible
abbrev pub no_level : ℕ
no_level = 0

-- the prefix `!`
abbrev pub inversion_level : ℕ
inversion_level = 9

-- `++`, the tightest of the binary operators
abbrev pub concatenation_level : ℕ
concatenation_level = 12

-- `?`
abbrev pub has_attr_level : ℕ
has_attr_level = 13

-- the prefix `-`
abbrev pub negation_level : ℕ
negation_level = 14

-- a function and its argument
abbrev pub application_level : ℕ
application_level = 15

-- a selection with `.`, and atoms
abbrev pub selection_level : ℕ
selection_level = 16

-- the level of a binary operator, and which way it groups
abbrev pub operator : SyntaxKind → Option (ℕ × Associativity)
operator TOKEN_PIPE_LEFT = Some (1, Right)
operator TOKEN_PIPE_RIGHT = Some (2, Left)
operator TOKEN_IMPLICATION = Some (3, Right)
operator TOKEN_OR_OR = Some (4, Left)
operator TOKEN_AND_AND = Some (5, Left)
operator TOKEN_EQUAL = Some (6, Neither)
operator TOKEN_NOT_EQUAL = Some (6, Neither)
operator TOKEN_LESS = Some (7, Neither)
operator TOKEN_LESS_OR_EQ = Some (7, Neither)
operator TOKEN_MORE = Some (7, Neither)
operator TOKEN_MORE_OR_EQ = Some (7, Neither)
operator TOKEN_UPDATE = Some (8, Right)
operator TOKEN_ADD = Some (10, Left)
operator TOKEN_SUB = Some (10, Left)
operator TOKEN_MUL = Some (11, Left)
operator TOKEN_DIV = Some (11, Left)
operator TOKEN_CONCAT = Some (concatenation_level, Right)
operator kind = None

-- how tightly a token that is not a binary operator binds what precedes it
abbrev pub plain_binding_power : SyntaxKind → ℕ
plain_binding_power TOKEN_QUESTION = has_attr_level
plain_binding_power TOKEN_DOT = selection_level
plain_binding_power TOKEN_OR = selection_level
plain_binding_power kind = if is_fn_arg kind then application_level else no_level

-- an operator's level, or another number if the token is not an operator
abbrev pub level_or : ℕ → Option (ℕ × Associativity) → ℕ
level_or n (Some o) = o.0
level_or n None = n

-- how tightly a token binds what precedes it; a token that ends an expression has no level
abbrev pub binding_power : SyntaxKind → ℕ
binding_power kind = level_or (plain_binding_power kind) (operator kind)

-- the lowest level of a right operand: the operator's own if it groups to the right, otherwise the next
abbrev pub right_level : ℕ → Associativity → ℕ
right_level level Right = level
right_level level way = suc level

-- the same for a left operand
abbrev pub left_level : ℕ → Associativity → ℕ
left_level level Left = level
left_level level way = suc level

-- the highest level of an operator that may follow an operation: the operation's own if it groups to the left, otherwise the one before
abbrev pub max_bp_level : ℕ → Associativity → ℕ
max_bp_level level Left = level
max_bp_level level way = level - 1

-- a function of an operator's level and grouping, or another number if the token is not an operator
abbrev pub side_of : (ℕ → Associativity → ℕ) → ℕ → Option (ℕ × Associativity) → ℕ
side_of side n (Some o) = side o.0 o.1
side_of side n None = n

-- the lowest level of an operator's right operand
abbrev pub right_of : SyntaxKind → ℕ
right_of kind = side_of right_level selection_level (operator kind)

-- the lowest level of an operator's left operand
abbrev pub left_of : SyntaxKind → ℕ
left_of kind = side_of left_level selection_level (operator kind)

-- the highest level of an operator after an operation
abbrev pub max_bp_of : SyntaxKind → ℕ
max_bp_of kind = side_of max_bp_level application_level (operator kind)
