-- Entries that an `inherit` says in fewer words.
use Rattle.std.specs.Prelude.{ℕ, ◌==◌, Bool, false, ◌&&◌, ◌||◌, bytes_eq, List, [], ◌∷◌, Option, Some, None, is_none}
use Rattle.rnix_kinds.specs.declared.kinds.SyntaxKind.TheVariants as k
use Rattle.rnix_green.specs.Equality.{same_kind}
use Rattle.rnix_green.specs.Tree.{Located, item_of, text_at}
use Rattle.rnix_green.specs.Relatives.{parent_of}
use Rattle.rnix_base.specs.Select.{child_of, nodes_of}
use Rattle.rnix.specs.NodeKinds.{is_attr, is_expr}
use Rattle.nix_diagnostics.specs.declared.code.Code.TheVariants as code
use Rattle.nix_lints.specs.Found.{Found, found_if}

-- the only one of some nodes
abbrev pub single : List Located → Option Located
single [] = None
single (node ∷ []) = Some node
single (node ∷ other ∷ nodes) = None

-- the only name of a path, if there is a path
abbrev pub single_in : Option Located → Option Located
single_in None = None
single_in (Some path) = single (nodes_of is_attr path)

-- the only name of the path right below a node
abbrev pub only_name : Located → Option Located
only_name node = single_in (child_of (same_kind k.NODE_ATTRPATH) 0 node)

-- two nodes are the same identifier
abbrev pub are_same_word : Located → Located → Bool
are_same_word one other =
    same_kind (item_of one).kind k.NODE_IDENT && (same_kind (item_of other).kind k.NODE_IDENT && bytes_eq (text_at one) (text_at other))

-- there are two nodes, and they are the same identifier
abbrev pub are_same_if : Option Located → Option Located → Bool
are_same_if (Some one) (Some other) = are_same_word one other
are_same_if one other = false

-- a text begins with a brace
abbrev pub begins_with_brace : List ℕ → Bool
begins_with_brace [] = false
begins_with_brace (byte ∷ bytes) = byte == 123

-- a node is a set without `rec`, which then begins with its brace
abbrev pub is_plain_set : Option Located → Bool
is_plain_set None = false
is_plain_set (Some set) = same_kind (item_of set).kind k.NODE_ATTR_SET && begins_with_brace (text_at set)

-- the value of an entry is its own name, outside of `rec` and `let`
abbrev pub is_own_name : Located → Bool
is_own_name entry = is_plain_set (parent_of entry) && are_same_if (only_name entry) (child_of is_expr 0 entry)

-- a value selects a name from an expression, without a default
abbrev pub selects : Option Located → Option Located → Bool
selects name None = false
selects name (Some value) =
    same_kind (item_of value).kind k.NODE_SELECT && (is_none (child_of is_expr 1 value) && are_same_if name (only_name value))

-- the value of an entry selects its own name
abbrev pub is_selected_name : Located → Bool
is_selected_name entry = selects (only_name entry) (child_of is_expr 0 entry)

-- the finding on an entry with a value, if an `inherit` says the same
abbrev pub manual_inherit : Located → Option Found
manual_inherit entry = found_if (is_own_name entry || is_selected_name entry) code.ManualInherit entry
