-- Which kinds of nodes are atoms, operands, expressions, attributes and entries, and which fit a level.
use Rattle.std.specs.Prelude.{ℕ, Bool, true, false, if◌then◌else◌, nat_eq, nat_le}
use Rattle.std.specs.Option.{is_some}
use Rattle.rnix_kinds.specs.declared.kinds.SyntaxKind.{SyntaxKind}
use Rattle.rnix_kinds.specs.declared.kinds.SyntaxKind.TheVariants.{NODE_APPLY, NODE_ASSERT, NODE_ATTRPATH_VALUE, NODE_ATTR_SET, NODE_BIN_OP, NODE_CUR_POS}
use Rattle.rnix_kinds.specs.declared.kinds.SyntaxKind.TheVariants.{NODE_DYNAMIC, NODE_HAS_ATTR, NODE_IDENT, NODE_IF_ELSE, NODE_INHERIT, NODE_LAMBDA}
use Rattle.rnix_kinds.specs.declared.kinds.SyntaxKind.TheVariants.{NODE_LEGACY_LET, NODE_LET_IN, NODE_LIST, NODE_LITERAL, NODE_PAREN, NODE_PATH_ABS}
use Rattle.rnix_kinds.specs.declared.kinds.SyntaxKind.TheVariants.{NODE_PATH_HOME, NODE_PATH_REL, NODE_PATH_SEARCH, NODE_SELECT, NODE_STRING, NODE_UNARY_OP}
use Rattle.rnix_kinds.specs.declared.kinds.SyntaxKind.TheVariants.{NODE_WITH, TOKEN_FLOAT, TOKEN_INTEGER, TOKEN_URI}
use Rattle.rnix_grammar.specs.Levels.{expression_level, concatenation_level, has_attr_level, negation_level, operator}

-- what `.` and `or` may follow
abbrev pub is_atom : SyntaxKind → Bool
is_atom NODE_LAMBDA = true
is_atom NODE_PAREN = true
is_atom NODE_ATTR_SET = true
is_atom NODE_LIST = true
is_atom NODE_STRING = true
is_atom NODE_PATH_ABS = true
is_atom NODE_PATH_REL = true
is_atom NODE_PATH_HOME = true
is_atom NODE_PATH_SEARCH = true
is_atom NODE_LITERAL = true
is_atom NODE_IDENT = true
is_atom NODE_CUR_POS = true
is_atom kind = false

-- what may be called or passed as an argument
abbrev pub is_simple : SyntaxKind → Bool
is_simple NODE_SELECT = true
is_simple NODE_APPLY = true
is_simple kind = is_atom kind

-- what may follow the prefix `-`
abbrev pub is_negated : SyntaxKind → Bool
is_negated NODE_UNARY_OP = true
is_negated kind = is_simple kind

-- what `?` may follow
abbrev pub is_questioned : SyntaxKind → Bool
is_questioned NODE_HAS_ATTR = true
is_questioned kind = is_negated kind

-- operands of the binary operators
abbrev pub is_operand : SyntaxKind → Bool
is_operand NODE_BIN_OP = true
is_operand kind = is_questioned kind

-- all expressions
abbrev pub is_expression : SyntaxKind → Bool
is_expression NODE_LEGACY_LET = true
is_expression NODE_LET_IN = true
is_expression NODE_WITH = true
is_expression NODE_IF_ELSE = true
is_expression NODE_ASSERT = true
is_expression kind = is_operand kind

-- expressions that extend as far as possible, and so are not operands
abbrev pub is_keyword_expression : SyntaxKind → Bool
is_keyword_expression kind = if is_operand kind then false else is_expression kind

-- the kinds that are allowed where an operand of a level is wanted
abbrev pub fits : ℕ → SyntaxKind → Bool
fits level kind =
    if nat_eq level expression_level then is_expression kind
    else (if nat_le level concatenation_level then is_operand kind
    else (if nat_eq level has_attr_level then is_questioned kind
    else (if nat_eq level negation_level then is_negated kind else is_simple kind)))

-- the binary operators
abbrev pub is_infix : SyntaxKind → Bool
is_infix kind = is_some (operator kind)

-- the tokens of NODE_LITERAL
abbrev pub is_plain_literal : SyntaxKind → Bool
is_plain_literal TOKEN_FLOAT = true
is_plain_literal TOKEN_INTEGER = true
is_plain_literal TOKEN_URI = true
is_plain_literal kind = false

-- parts of an attribute path
abbrev pub is_attr : SyntaxKind → Bool
is_attr NODE_IDENT = true
is_attr NODE_STRING = true
is_attr NODE_DYNAMIC = true
is_attr kind = false

-- entries of sets and lets
abbrev pub is_entry : SyntaxKind → Bool
is_entry NODE_INHERIT = true
is_entry NODE_ATTRPATH_VALUE = true
is_entry kind = false
