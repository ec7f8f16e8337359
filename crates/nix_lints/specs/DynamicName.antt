-- Computed names in a `let` or an `inherit`.
use Rattle.std.specs.Prelude.{◌==◌, ◌&&◌, Bool, true, false, Option, Some, None, is_none, if◌then◌else◌}
use Rattle.rnix_kinds.specs.declared.kinds.SyntaxKind.{SyntaxKind}
use Rattle.rnix_kinds.specs.declared.kinds.SyntaxKind.TheVariants as k
use Rattle.rnix_green.specs.Equality.{same_kind}
use Rattle.rnix_green.specs.Tree.{Located, item_of}
use Rattle.rnix_green.specs.Relatives.{parent_of}
use Rattle.rnix_base.specs.Select.{child_of}
use Rattle.rnix.specs.{AttrName.static_name, NodeKinds.is_attr}
use Rattle.nix_diagnostics.specs.declared.code.Code.TheVariants as code
use Rattle.nix_lints.specs.Found.{Found, found_if, is_kind_in}

-- there is a node, and it is another one
abbrev pub is_same_node : Option Located → Located → Bool
is_same_node None other = false
is_same_node (Some one) other = one.number == other.number

-- the node around a node has this kind
abbrev pub is_kind_around : SyntaxKind → Located → Bool
is_kind_around kind node = is_kind_in (λ own. same_kind own kind) (parent_of node)

-- there is a node, and it is an entry of a `let`
abbrev pub is_entry_of_let : Option Located → Bool
is_entry_of_let None = false
is_entry_of_let (Some entry) = same_kind (item_of entry).kind k.NODE_ATTRPATH_VALUE && is_kind_around k.NODE_LET_IN entry

-- a node is the path of an entry of a `let`
abbrev pub is_path_of_let : Located → Bool
is_path_of_let path = same_kind (item_of path).kind k.NODE_ATTRPATH && is_entry_of_let (parent_of path)

-- a name right below a node is one of an `inherit`, or begins the path of an entry of a `let`
abbrev pub is_let_or_inherit_in : Option Located → Located → Bool
is_let_or_inherit_in None name = false
is_let_or_inherit_in (Some parent) name =
    if same_kind (item_of parent).kind k.NODE_INHERIT then true else is_path_of_let parent && is_same_node (child_of is_attr 0 parent) name

abbrev pub is_let_or_inherit : Located → Bool
is_let_or_inherit name = is_let_or_inherit_in (parent_of name) name

-- the finding on a name, if it is computed and Nix does not allow that
abbrev pub dynamic_name : Located → Option Found
dynamic_name name = found_if (is_let_or_inherit name && is_none (static_name name)) code.DynamicName name
