-- Tests for single kinds of tokens.
use Rattle.std.specs.Prelude.{Bool, true, false}
use Rattle.rnix_kinds.specs.declared.kinds.SyntaxKind.{SyntaxKind}
use Rattle.rnix_kinds.specs.declared.kinds.SyntaxKind.TheVariants.{TOKEN_QUESTION, TOKEN_DOT, TOKEN_PATH_ABS, TOKEN_PATH_REL, TOKEN_PATH_HOME, TOKEN_INTERPOL_START, TOKEN_OR, TOKEN_INHERIT}

-- the token `?`
abbrev pub is_question : SyntaxKind → Bool
is_question TOKEN_QUESTION = true
is_question kind = false

-- the token `.`
abbrev pub is_dot : SyntaxKind → Bool
is_dot TOKEN_DOT = true
is_dot kind = false

-- the tokens of a path that may be interpolated
abbrev pub is_path_piece : SyntaxKind → Bool
is_path_piece TOKEN_PATH_ABS = true
is_path_piece TOKEN_PATH_REL = true
is_path_piece TOKEN_PATH_HOME = true
is_path_piece kind = false

-- the tokens that continue an interpolated path that they touch
abbrev pub is_piece_start : SyntaxKind → Bool
is_piece_start TOKEN_INTERPOL_START = true
is_piece_start kind = is_path_piece kind

-- the token `or`
abbrev pub is_or : SyntaxKind → Bool
is_or TOKEN_OR = true
is_or kind = false

-- the token `inherit`
abbrev pub is_inherit_token : SyntaxKind → Bool
is_inherit_token TOKEN_INHERIT = true
is_inherit_token kind = false
