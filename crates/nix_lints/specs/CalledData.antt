-- Data that is called like a function.
use Rattle.std.specs.Prelude.{Bool, true, false, Option}
use Rattle.rnix_kinds.specs.declared.kinds.SyntaxKind.{SyntaxKind}
use Rattle.rnix_kinds.specs.declared.kinds.SyntaxKind.TheVariants.{NODE_LITERAL, NODE_STRING, NODE_LIST, NODE_PATH_ABS, NODE_PATH_HOME}
use Rattle.rnix_kinds.specs.declared.kinds.SyntaxKind.TheVariants.{NODE_PATH_REL, NODE_PATH_SEARCH}
use Rattle.rnix_green.specs.Tree.{Located}
use Rattle.rnix_base.specs.Select.{child_of}
use Rattle.rnix.specs.NodeKinds.{is_expr}
use Rattle.nix_diagnostics.specs.declared.code.Code.TheVariants as code
use Rattle.nix_lints.specs.Found.{Found, found_if, is_kind_in}

-- a node of this kind is a number, an address, a string, a path or a list
abbrev pub is_data : SyntaxKind → Bool
is_data NODE_LITERAL = true
is_data NODE_STRING = true
is_data NODE_LIST = true
is_data NODE_PATH_ABS = true
is_data NODE_PATH_HOME = true
is_data NODE_PATH_REL = true
is_data NODE_PATH_SEARCH = true
is_data kind = false

-- a call calls data
abbrev pub is_called_data : Located → Bool
is_called_data call = is_kind_in is_data (child_of is_expr 0 call)

-- the finding on a call, if it calls data
abbrev pub called_data : Located → Option Found
called_data call = found_if (is_called_data call) code.CalledData call
