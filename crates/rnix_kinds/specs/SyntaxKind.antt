-- The kinds of tokens and nodes: their names and classes.
use Rattle.std.specs.Prelude.{◌≡◌, ℕ, Bool, true, false, List, length, codes, nat_lt, Result, MatchResult}
use Rattle.rnix_kinds.specs.declared.kinds.SyntaxKind.{SyntaxKind}
use Rattle.rnix_kinds.specs.declared.kinds.SyntaxKind.TheVariants.{TOKEN_ADD, TOKEN_AND_AND, TOKEN_ASSIGN, TOKEN_ASSERT, TOKEN_AT, TOKEN_COLON, TOKEN_COMMA, TOKEN_COMMENT, TOKEN_CONCAT, TOKEN_CUR_POS, TOKEN_DIV, TOKEN_DOT, TOKEN_ELLIPSIS, TOKEN_ELSE, TOKEN_EQUAL, TOKEN_ERROR, TOKEN_FLOAT, TOKEN_IDENT, TOKEN_IF, TOKEN_IMPLICATION, TOKEN_IN, TOKEN_INHERIT, TOKEN_INTEGER, TOKEN_INTERPOL_END, TOKEN_INTERPOL_START, TOKEN_INVERT, TOKEN_L_BRACE, TOKEN_L_BRACK, TOKEN_L_PAREN, TOKEN_LESS, TOKEN_LESS_OR_EQ, TOKEN_LET, TOKEN_MORE, TOKEN_MORE_OR_EQ, TOKEN_MUL, TOKEN_NOT_EQUAL, TOKEN_OR, TOKEN_OR_OR, TOKEN_PATH_ABS, TOKEN_PATH_HOME, TOKEN_PATH_REL, TOKEN_PATH_SEARCH, TOKEN_PIPE_LEFT, TOKEN_PIPE_RIGHT, TOKEN_QUESTION, TOKEN_R_BRACE, TOKEN_R_BRACK, TOKEN_R_PAREN, TOKEN_REC, TOKEN_SEMICOLON, TOKEN_STRING_CONTENT, TOKEN_STRING_END, TOKEN_STRING_START, TOKEN_SUB, TOKEN_THEN, TOKEN_UPDATE, TOKEN_URI, TOKEN_WHITESPACE, TOKEN_WITH, NODE_APPLY, NODE_ASSERT, NODE_ATTR_SET, NODE_ATTRPATH, NODE_ATTRPATH_VALUE, NODE_BIN_OP, NODE_CUR_POS, NODE_DYNAMIC, NODE_ERROR, NODE_HAS_ATTR, NODE_IDENT, NODE_IDENT_PARAM, NODE_IF_ELSE, NODE_INHERIT, NODE_INHERIT_FROM, NODE_INTERPOL, NODE_LAMBDA, NODE_LEGACY_LET, NODE_LET_IN, NODE_LIST, NODE_LITERAL, NODE_PAREN, NODE_PAT_BIND, NODE_PAT_ENTRY, NODE_PATTERN, NODE_PATH_ABS, NODE_PATH_HOME, NODE_PATH_REL, NODE_PATH_SEARCH, NODE_ROOT, NODE_SELECT, NODE_STRING, NODE_UNARY_OP, NODE_WITH}
use Rattle.rnix_kinds.specs.declared.kinds.TheConstants.{ALL}
use Rattle.rnix_kinds.specs.contracts.kinds.SyntaxKind.{the_type}
use denote.Enum.Declared.{tag_of}
use Rattle.rnix_kinds.specs.declared.kinds.ParseSyntaxKindError.{ParseSyntaxKindError}

-- a kind's own name
abbrev pub name_of : SyntaxKind → List ℕ
name_of TOKEN_ADD = codes "TOKEN_ADD"
name_of TOKEN_AND_AND = codes "TOKEN_AND_AND"
name_of TOKEN_ASSIGN = codes "TOKEN_ASSIGN"
name_of TOKEN_ASSERT = codes "TOKEN_ASSERT"
name_of TOKEN_AT = codes "TOKEN_AT"
name_of TOKEN_COLON = codes "TOKEN_COLON"
name_of TOKEN_COMMA = codes "TOKEN_COMMA"
name_of TOKEN_COMMENT = codes "TOKEN_COMMENT"
name_of TOKEN_CONCAT = codes "TOKEN_CONCAT"
name_of TOKEN_CUR_POS = codes "TOKEN_CUR_POS"
name_of TOKEN_DIV = codes "TOKEN_DIV"
name_of TOKEN_DOT = codes "TOKEN_DOT"
name_of TOKEN_ELLIPSIS = codes "TOKEN_ELLIPSIS"
name_of TOKEN_ELSE = codes "TOKEN_ELSE"
name_of TOKEN_EQUAL = codes "TOKEN_EQUAL"
name_of TOKEN_ERROR = codes "TOKEN_ERROR"
name_of TOKEN_FLOAT = codes "TOKEN_FLOAT"
name_of TOKEN_IDENT = codes "TOKEN_IDENT"
name_of TOKEN_IF = codes "TOKEN_IF"
name_of TOKEN_IMPLICATION = codes "TOKEN_IMPLICATION"
name_of TOKEN_IN = codes "TOKEN_IN"
name_of TOKEN_INHERIT = codes "TOKEN_INHERIT"
name_of TOKEN_INTEGER = codes "TOKEN_INTEGER"
name_of TOKEN_INTERPOL_END = codes "TOKEN_INTERPOL_END"
name_of TOKEN_INTERPOL_START = codes "TOKEN_INTERPOL_START"
name_of TOKEN_INVERT = codes "TOKEN_INVERT"
name_of TOKEN_L_BRACE = codes "TOKEN_L_BRACE"
name_of TOKEN_L_BRACK = codes "TOKEN_L_BRACK"
name_of TOKEN_L_PAREN = codes "TOKEN_L_PAREN"
name_of TOKEN_LESS = codes "TOKEN_LESS"
name_of TOKEN_LESS_OR_EQ = codes "TOKEN_LESS_OR_EQ"
name_of TOKEN_LET = codes "TOKEN_LET"
name_of TOKEN_MORE = codes "TOKEN_MORE"
name_of TOKEN_MORE_OR_EQ = codes "TOKEN_MORE_OR_EQ"
name_of TOKEN_MUL = codes "TOKEN_MUL"
name_of TOKEN_NOT_EQUAL = codes "TOKEN_NOT_EQUAL"
name_of TOKEN_OR = codes "TOKEN_OR"
name_of TOKEN_OR_OR = codes "TOKEN_OR_OR"
name_of TOKEN_PATH_ABS = codes "TOKEN_PATH_ABS"
name_of TOKEN_PATH_HOME = codes "TOKEN_PATH_HOME"
name_of TOKEN_PATH_REL = codes "TOKEN_PATH_REL"
name_of TOKEN_PATH_SEARCH = codes "TOKEN_PATH_SEARCH"
name_of TOKEN_PIPE_LEFT = codes "TOKEN_PIPE_LEFT"
name_of TOKEN_PIPE_RIGHT = codes "TOKEN_PIPE_RIGHT"
name_of TOKEN_QUESTION = codes "TOKEN_QUESTION"
name_of TOKEN_R_BRACE = codes "TOKEN_R_BRACE"
name_of TOKEN_R_BRACK = codes "TOKEN_R_BRACK"
name_of TOKEN_R_PAREN = codes "TOKEN_R_PAREN"
name_of TOKEN_REC = codes "TOKEN_REC"
name_of TOKEN_SEMICOLON = codes "TOKEN_SEMICOLON"
name_of TOKEN_STRING_CONTENT = codes "TOKEN_STRING_CONTENT"
name_of TOKEN_STRING_END = codes "TOKEN_STRING_END"
name_of TOKEN_STRING_START = codes "TOKEN_STRING_START"
name_of TOKEN_SUB = codes "TOKEN_SUB"
name_of TOKEN_THEN = codes "TOKEN_THEN"
name_of TOKEN_UPDATE = codes "TOKEN_UPDATE"
name_of TOKEN_URI = codes "TOKEN_URI"
name_of TOKEN_WHITESPACE = codes "TOKEN_WHITESPACE"
name_of TOKEN_WITH = codes "TOKEN_WITH"
name_of NODE_APPLY = codes "NODE_APPLY"
name_of NODE_ASSERT = codes "NODE_ASSERT"
name_of NODE_ATTR_SET = codes "NODE_ATTR_SET"
name_of NODE_ATTRPATH = codes "NODE_ATTRPATH"
name_of NODE_ATTRPATH_VALUE = codes "NODE_ATTRPATH_VALUE"
name_of NODE_BIN_OP = codes "NODE_BIN_OP"
name_of NODE_CUR_POS = codes "NODE_CUR_POS"
name_of NODE_DYNAMIC = codes "NODE_DYNAMIC"
name_of NODE_ERROR = codes "NODE_ERROR"
name_of NODE_HAS_ATTR = codes "NODE_HAS_ATTR"
name_of NODE_IDENT = codes "NODE_IDENT"
name_of NODE_IDENT_PARAM = codes "NODE_IDENT_PARAM"
name_of NODE_IF_ELSE = codes "NODE_IF_ELSE"
name_of NODE_INHERIT = codes "NODE_INHERIT"
name_of NODE_INHERIT_FROM = codes "NODE_INHERIT_FROM"
name_of NODE_INTERPOL = codes "NODE_INTERPOL"
name_of NODE_LAMBDA = codes "NODE_LAMBDA"
name_of NODE_LEGACY_LET = codes "NODE_LEGACY_LET"
name_of NODE_LET_IN = codes "NODE_LET_IN"
name_of NODE_LIST = codes "NODE_LIST"
name_of NODE_LITERAL = codes "NODE_LITERAL"
name_of NODE_PAREN = codes "NODE_PAREN"
name_of NODE_PAT_BIND = codes "NODE_PAT_BIND"
name_of NODE_PAT_ENTRY = codes "NODE_PAT_ENTRY"
name_of NODE_PATTERN = codes "NODE_PATTERN"
name_of NODE_PATH_ABS = codes "NODE_PATH_ABS"
name_of NODE_PATH_HOME = codes "NODE_PATH_HOME"
name_of NODE_PATH_REL = codes "NODE_PATH_REL"
name_of NODE_PATH_SEARCH = codes "NODE_PATH_SEARCH"
name_of NODE_ROOT = codes "NODE_ROOT"
name_of NODE_SELECT = codes "NODE_SELECT"
name_of NODE_STRING = codes "NODE_STRING"
name_of NODE_UNARY_OP = codes "NODE_UNARY_OP"
name_of NODE_WITH = codes "NODE_WITH"

-- how many kinds there are
abbrev pub kind_count : ℕ
kind_count = length ALL

-- a kind's position in the list of all kinds
abbrev pub discriminant_of : SyntaxKind → ℕ
discriminant_of = tag_of the_type

-- the kinds of tokens come before those of nodes
abbrev pub is_token : SyntaxKind → Bool
is_token kind = nat_lt (discriminant_of kind) (discriminant_of NODE_APPLY)

-- a literal's only token
abbrev pub is_literal : SyntaxKind → Bool
is_literal TOKEN_FLOAT = true
is_literal TOKEN_INTEGER = true
is_literal TOKEN_PATH_ABS = true
is_literal TOKEN_PATH_REL = true
is_literal TOKEN_PATH_HOME = true
is_literal TOKEN_PATH_SEARCH = true
is_literal TOKEN_URI = true
is_literal kind = false

-- what may begin a function's argument
abbrev pub is_fn_arg : SyntaxKind → Bool
is_fn_arg TOKEN_FLOAT = true
is_fn_arg TOKEN_INTEGER = true
is_fn_arg TOKEN_PATH_ABS = true
is_fn_arg TOKEN_PATH_REL = true
is_fn_arg TOKEN_PATH_HOME = true
is_fn_arg TOKEN_PATH_SEARCH = true
is_fn_arg TOKEN_URI = true
is_fn_arg TOKEN_REC = true
is_fn_arg TOKEN_L_BRACE = true
is_fn_arg TOKEN_L_BRACK = true
is_fn_arg TOKEN_L_PAREN = true
is_fn_arg TOKEN_STRING_START = true
is_fn_arg TOKEN_IDENT = true
is_fn_arg TOKEN_CUR_POS = true
is_fn_arg kind = false

-- comments and white space
abbrev pub is_trivia : SyntaxKind → Bool
is_trivia TOKEN_COMMENT = true
is_trivia TOKEN_WHITESPACE = true
is_trivia kind = false

-- a text is read as the kind of which it is the name
pub record IsReadKind (text : List ℕ) (result : Result SyntaxKind ParseSyntaxKindError) : Type 0 where
  pub kind : MatchResult result (λ kind. name_of kind ≡ text) (λ _. Unit {0})
  pub refusal : MatchResult result (λ _. Unit {0}) (λ _. (kind : SyntaxKind) → ¬ (name_of kind ≡ text))
