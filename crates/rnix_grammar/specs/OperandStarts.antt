-- How an operand begins, by its first three items: the kind of its first tree, and how the reader begins it.
use Rattle.std.specs.Prelude.{ℕ, ◌-◌, Bool, true, false, Option, Some, if◌then◌else◌, nat_le, nat_eq, List}
use Rattle.rnix_kinds.specs.declared.kinds.SyntaxKind.{SyntaxKind}
use Rattle.rnix_kinds.specs.declared.kinds.SyntaxKind.TheVariants.{TOKEN_L_PAREN, TOKEN_L_BRACK, TOKEN_REC, TOKEN_STRING_START, TOKEN_PATH_ABS, TOKEN_PATH_REL, TOKEN_PATH_HOME, TOKEN_PATH_SEARCH, TOKEN_FLOAT, TOKEN_INTEGER, TOKEN_URI, TOKEN_IDENT, TOKEN_CUR_POS, TOKEN_L_BRACE, TOKEN_R_BRACE, TOKEN_COMMA, TOKEN_QUESTION, TOKEN_ELLIPSIS, TOKEN_COLON, TOKEN_AT, TOKEN_LET, TOKEN_WITH, TOKEN_ASSERT, TOKEN_IF, TOKEN_INVERT, TOKEN_SUB, NODE_PAREN, NODE_LIST, NODE_ATTR_SET, NODE_STRING, NODE_PATH_ABS, NODE_PATH_REL, NODE_PATH_HOME, NODE_PATH_SEARCH, NODE_LITERAL, NODE_IDENT, NODE_CUR_POS, NODE_IDENT_PARAM, NODE_PATTERN, NODE_UNARY_OP, NODE_LEGACY_LET, NODE_LET_IN, NODE_WITH, NODE_ASSERT, NODE_IF_ELSE, NODE_ERROR}
use Rattle.rnix_grammar.specs.declared.slot_table.TheConstants.{PAREN, LIST, SET, REC_SET, STRING, PATH_ABS, PATH_REL, PATH_HOME, LET_IN, WITH, ASSERT, IF_ELSE, INVERSION, NEGATION}
use Rattle.rnix_grammar.specs.declared.operand_start.OperandStart.{OperandStart}
use Rattle.rnix_grammar.specs.declared.operand_start.OperandStart.TheVariants as b
use Rattle.rnix_grammar.specs.Tables.{is_cur_pos}
use Rattle.rnix_grammar.specs.AnnotatedForest.{Token, head_kind}
use Rattle.rnix_grammar.specs.Layout.{tail_of}
use Rattle.rnix_grammar.specs.Levels.{expression_level, no_level, inversion_level, negation_level, selection_level}

-- `{` begins a pattern
abbrev pub is_pattern : Option SyntaxKind → Option SyntaxKind → Bool
is_pattern (Some TOKEN_IDENT) (Some TOKEN_COMMA) = true
is_pattern (Some TOKEN_IDENT) (Some TOKEN_QUESTION) = true
is_pattern (Some TOKEN_IDENT) (Some TOKEN_R_BRACE) = true
is_pattern (Some TOKEN_ELLIPSIS) (Some TOKEN_R_BRACE) = true
is_pattern (Some TOKEN_R_BRACE) (Some TOKEN_COLON) = true
is_pattern (Some TOKEN_R_BRACE) (Some TOKEN_AT) = true
is_pattern second third = false

-- a name alone, or as the parameter of a function
abbrev pub first_kind_of_name : List ℕ → Option SyntaxKind → SyntaxKind
first_kind_of_name text (Some TOKEN_COLON) = NODE_IDENT_PARAM
first_kind_of_name text (Some TOKEN_AT) = NODE_PATTERN
first_kind_of_name text second = if is_cur_pos text then NODE_CUR_POS else NODE_IDENT

-- an old `let`, or one with bindings
abbrev pub first_kind_of_let : Option SyntaxKind → SyntaxKind
first_kind_of_let (Some TOKEN_L_BRACE) = NODE_LEGACY_LET
first_kind_of_let second = NODE_LET_IN

-- a kind, if a test holds
abbrev pub kind_if : Bool → SyntaxKind → SyntaxKind
kind_if true k = k
kind_if false k = NODE_ERROR

-- the kind of the first tree of an operand of a level; an item that begins no operand becomes an error node
abbrev pub first_kind : ℕ → SyntaxKind → List ℕ → Option SyntaxKind → Option SyntaxKind → SyntaxKind
first_kind n TOKEN_L_PAREN text second third = NODE_PAREN
first_kind n TOKEN_L_BRACK text second third = NODE_LIST
first_kind n TOKEN_REC text second third = NODE_ATTR_SET
first_kind n TOKEN_L_BRACE text second third = if is_pattern second third then NODE_PATTERN else NODE_ATTR_SET
first_kind n TOKEN_STRING_START text second third = NODE_STRING
first_kind n TOKEN_PATH_ABS text second third = NODE_PATH_ABS
first_kind n TOKEN_PATH_REL text second third = NODE_PATH_REL
first_kind n TOKEN_PATH_HOME text second third = NODE_PATH_HOME
first_kind n TOKEN_PATH_SEARCH text second third = NODE_PATH_SEARCH
first_kind n TOKEN_FLOAT text second third = NODE_LITERAL
first_kind n TOKEN_INTEGER text second third = NODE_LITERAL
first_kind n TOKEN_URI text second third = NODE_LITERAL
first_kind n TOKEN_IDENT text second third = first_kind_of_name text second
first_kind n TOKEN_CUR_POS text second third = NODE_CUR_POS
first_kind n TOKEN_INVERT text second third = kind_if (nat_le n inversion_level) NODE_UNARY_OP
first_kind n TOKEN_SUB text second third = kind_if (nat_le n negation_level) NODE_UNARY_OP
first_kind n TOKEN_LET text second third = kind_if (nat_eq n expression_level) (first_kind_of_let second)
first_kind n TOKEN_WITH text second third = kind_if (nat_eq n expression_level) NODE_WITH
first_kind n TOKEN_ASSERT text second third = kind_if (nat_eq n expression_level) NODE_ASSERT
first_kind n TOKEN_IF text second third = kind_if (nat_eq n expression_level) NODE_IF_ELSE
first_kind n kind text second third = NODE_ERROR

-- how the reader begins an operand whose first tree has the kind, by its first token: the position in the tree's row, and the tightest operator after it
abbrev pub operand_start_for : SyntaxKind → SyntaxKind → OperandStart
operand_start_for NODE_PAREN token = b.Node NODE_PAREN PAREN selection_level
operand_start_for NODE_LIST token = b.Node NODE_LIST LIST selection_level
operand_start_for NODE_ATTR_SET TOKEN_REC = b.Node NODE_ATTR_SET REC_SET selection_level
operand_start_for NODE_ATTR_SET token = b.Node NODE_ATTR_SET SET selection_level
operand_start_for NODE_STRING token = b.Node NODE_STRING STRING selection_level
operand_start_for NODE_PATH_ABS token = b.Node NODE_PATH_ABS PATH_ABS selection_level
operand_start_for NODE_PATH_REL token = b.Node NODE_PATH_REL PATH_REL selection_level
operand_start_for NODE_PATH_HOME token = b.Node NODE_PATH_HOME PATH_HOME selection_level
operand_start_for NODE_UNARY_OP TOKEN_INVERT = b.Node NODE_UNARY_OP INVERSION (inversion_level - 1)
operand_start_for NODE_UNARY_OP token = b.Node NODE_UNARY_OP NEGATION (negation_level - 1)
operand_start_for NODE_LET_IN token = b.Node NODE_LET_IN LET_IN no_level
operand_start_for NODE_WITH token = b.Node NODE_WITH WITH no_level
operand_start_for NODE_ASSERT token = b.Node NODE_ASSERT ASSERT no_level
operand_start_for NODE_IF_ELSE token = b.Node NODE_IF_ELSE IF_ELSE no_level
operand_start_for NODE_LEGACY_LET token = b.LegacyLet
operand_start_for NODE_IDENT_PARAM token = b.NameLambda
operand_start_for NODE_PATTERN TOKEN_IDENT = b.BoundLambda
operand_start_for NODE_PATTERN token = b.PatternLambda
operand_start_for NODE_ERROR token = b.Stray
operand_start_for kind token = b.Leaf kind

-- how an operand of a level begins
abbrev pub operand_start_of : ℕ → SyntaxKind → List ℕ → Option SyntaxKind → Option SyntaxKind → OperandStart
operand_start_of level kind text second third = operand_start_for (first_kind level kind text second third) kind

-- the kind of the second item
abbrev pub second_kind : List Token → Option SyntaxKind
second_kind ts = head_kind (tail_of ts)
