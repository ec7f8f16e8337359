-- How deep a tree nests: how many counted expressions are inside one another. Whether one counts depends only on the kinds of nodes.
use Rattle.std.specs.Prelude.{ℕ, suc, max, Bool, true, false, if◌then◌else◌}
use Rattle.rnix_kinds.specs.declared.kinds.SyntaxKind.{SyntaxKind}
use Rattle.rnix_kinds.specs.declared.kinds.SyntaxKind.TheVariants.{NODE_APPLY, NODE_ATTRPATH, NODE_BIN_OP, NODE_HAS_ATTR, NODE_IDENT_PARAM, NODE_INHERIT, NODE_PAT_BIND, NODE_PAT_ENTRY, NODE_SELECT}
use Rattle.rnix_green.specs.Forest.{Forest, empty, leaf, node}
use Rattle.rnix_grammar.specs.NodeClasses.{is_expression}

-- no child of these counts: operands of binary operators, a function and its argument, what precedes `.` or `?`, the default after `or`, and names
abbrev pub counts_no_child : SyntaxKind → Bool
counts_no_child NODE_BIN_OP = true
counts_no_child NODE_APPLY = true
counts_no_child NODE_SELECT = true
counts_no_child NODE_HAS_ATTR = true
counts_no_child NODE_ATTRPATH = true
counts_no_child NODE_INHERIT = true
counts_no_child NODE_IDENT_PARAM = true
counts_no_child NODE_PAT_BIND = true
counts_no_child kind = false

-- a child of the second kind counts below a node of the first: the child is an expression, and the node is none of the above
abbrev pub nests : SyntaxKind → SyntaxKind → Bool
nests parent kind = if counts_no_child parent then false else is_expression kind

-- how many counted expressions are inside one another in the children of a node of a kind; the first name of an entry of a pattern does not count
abbrev pub nest : SyntaxKind → Forest → ℕ
nest parent empty = 0
nest parent (leaf k t f) = nest parent f
nest parent (node NODE_PAT_ENTRY (node k c e) f) = max (nest NODE_PAT_ENTRY e) (nest parent f)
nest parent (node k c f) = max (if nests parent k then suc (nest k c) else nest k c) (nest parent f)
