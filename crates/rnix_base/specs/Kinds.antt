-- Sets of kinds.
use Rattle.std.specs.Prelude.{Bool, true, false}
use Rattle.rnix_kinds.specs.declared.kinds.SyntaxKind.{SyntaxKind}
use Rattle.rnix_kinds.specs.declared.kinds.SyntaxKind.TheVariants as k

-- the four kinds of path tokens
abbrev pub is_path_token : SyntaxKind → Bool
is_path_token k.TOKEN_PATH_ABS = true
is_path_token k.TOKEN_PATH_REL = true
is_path_token k.TOKEN_PATH_HOME = true
is_path_token k.TOKEN_PATH_SEARCH = true
is_path_token _ = false
