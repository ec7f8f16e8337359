-- The accepted extensions of the grammar: trees that are read without an error but are not strict.
use Rattle.std.specs.Prelude.{ℕ, suc, Bool, true, false, ◌&&◌, if◌then◌else◌, nat_eq}
use Rattle.rnix_kinds.specs.declared.kinds.SyntaxKind.{SyntaxKind}
use Rattle.rnix_kinds.specs.declared.kinds.SyntaxKind.TheVariants.{NODE_APPLY, NODE_BIN_OP, NODE_DYNAMIC, NODE_HAS_ATTR, NODE_LAMBDA, NODE_LIST, NODE_SELECT, NODE_UNARY_OP}
use Rattle.rnix_green.specs.Forest.{Forest, empty, leaf, node}

-- how many trees of a forest are nodes
abbrev pub node_count : Forest → ℕ
node_count empty = 0
node_count (leaf k t f) = node_count f
node_count (node k c f) = suc (node_count f)

-- the number one
abbrev pub is_one : ℕ → Bool
is_one n = nat_eq n 1

-- the kinds of nodes whose operands may not be lambdas
abbrev pub holds_no_lambda : SyntaxKind → Bool
holds_no_lambda NODE_APPLY = true
holds_no_lambda NODE_SELECT = true
holds_no_lambda NODE_HAS_ATTR = true
holds_no_lambda NODE_UNARY_OP = true
holds_no_lambda NODE_BIN_OP = true
holds_no_lambda NODE_LIST = true
holds_no_lambda kind = false

-- a dynamic attribute with no expression or several, or a lambda as an operand
abbrev pub is_extension : SyntaxKind → SyntaxKind → Forest → Bool
is_extension parent NODE_DYNAMIC c = if is_one (node_count c) then false else true
is_extension parent NODE_LAMBDA c = holds_no_lambda parent
is_extension parent kind c = false

-- no tree of a forest below a node of the kind is or contains an accepted extension
abbrev pub has_no_extension : SyntaxKind → Forest → Bool
has_no_extension parent empty = true
has_no_extension parent (leaf k t f) = has_no_extension parent f
has_no_extension parent (node k c f) = (if is_extension parent k c then false else true) && (has_no_extension k c && has_no_extension parent f)
