-- Parentheses that change nothing.
use Rattle.std.specs.Prelude.{Bool, true, false, ◌||◌, Option}
use Rattle.rnix_kinds.specs.declared.kinds.SyntaxKind.{SyntaxKind}
use Rattle.rnix_kinds.specs.declared.kinds.SyntaxKind.TheVariants.{NODE_IDENT, NODE_STRING, NODE_LIST, NODE_ATTR_SET, NODE_PAREN, NODE_ROOT}
use Rattle.rnix_kinds.specs.declared.kinds.SyntaxKind.TheVariants.{NODE_ATTRPATH_VALUE, NODE_LET_IN, NODE_WITH, NODE_ASSERT, NODE_IF_ELSE}
use Rattle.rnix_kinds.specs.declared.kinds.SyntaxKind.TheVariants.{NODE_LAMBDA, NODE_PAT_ENTRY, NODE_INTERPOL, NODE_DYNAMIC, NODE_INHERIT_FROM}
use Rattle.rnix_green.specs.Tree.{Located}
use Rattle.rnix_green.specs.Relatives.{parent_of}
use Rattle.rnix_base.specs.Select.{child_of}
use Rattle.rnix.specs.NodeKinds.{is_expr}
use Rattle.nix_diagnostics.specs.declared.code.Code.TheVariants as code
use Rattle.nix_lints.specs.Found.{Found, found_if, is_kind_in}

-- an expression of this kind is the same with and without parentheses, wherever it stands
abbrev pub is_closed : SyntaxKind → Bool
is_closed NODE_IDENT = true
is_closed NODE_STRING = true
is_closed NODE_LIST = true
is_closed NODE_ATTR_SET = true
is_closed NODE_PAREN = true
is_closed kind = false

-- any expression may stand right below a node of this kind without parentheses
abbrev pub takes_any : SyntaxKind → Bool
takes_any NODE_ROOT = true
takes_any NODE_PAREN = true
takes_any NODE_ATTRPATH_VALUE = true
takes_any NODE_LET_IN = true
takes_any NODE_WITH = true
takes_any NODE_ASSERT = true
takes_any NODE_IF_ELSE = true
takes_any NODE_LAMBDA = true
takes_any NODE_PAT_ENTRY = true
takes_any NODE_INTERPOL = true
takes_any NODE_DYNAMIC = true
takes_any NODE_INHERIT_FROM = true
takes_any kind = false

-- an expression that needs no parentheses anywhere is inside these
abbrev pub holds_closed : Located → Bool
holds_closed parentheses = is_kind_in is_closed (child_of is_expr 0 parentheses)

-- parentheses stand where any expression may
abbrev pub is_taken : Located → Bool
is_taken parentheses = is_kind_in takes_any (parent_of parentheses)

-- the finding on parentheses, if they change nothing
abbrev pub needless_parentheses : Located → Option Found
needless_parentheses parentheses = found_if (holds_closed parentheses || is_taken parentheses) code.NeedlessParentheses parentheses
