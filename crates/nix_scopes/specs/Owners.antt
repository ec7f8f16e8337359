-- The set in which a name is defined and an entry's value stands. In Nix, an entry that adds to a set belongs to the set of the first definition.
use Rattle.std.specs.Prelude.{ℕ, zero, suc, ◌+◌, ◌&&◌, nat_le, nat_lt, Bool, false, not, List, [], ◌∷◌, flat_map, Option, Some, None, option_map, option_and_then, option_to_list, unwrap_or, if◌then◌else◌}
use Rattle.std.specs.List.{list_any}
use Rattle.std.specs.Option.{option_or}
use Rattle.rnix_kinds.specs.declared.kinds.SyntaxKind.TheVariants as k
use Rattle.rnix_green.specs.Equality.{same_kind}
use Rattle.rnix_green.specs.Tree.{Located, item_of}
use Rattle.rnix_green.specs.Walk.{nodes_in, elements_of}
use Rattle.rnix_green.specs.Relatives.{parent_of}
use Rattle.rnix_tree.specs.declared.siblings.Direction.TheVariants.{Prev}
use Rattle.rnix_tree.specs.Siblings.{siblings_of}
use Rattle.rnix_base.specs.Select.{nodes_of, child_of}
use Rattle.rnix.specs.AttrName.{without_parens}
use Rattle.rnix.specs.NodeKinds.{is_attr, is_expr}
use Rattle.nix_attributes.specs.Repeated.{home_in}
use Rattle.nix_scopes.specs.Binders.{is_recursive}

-- whether an expression is a set with `rec`, possibly in parentheses
abbrev pub is_recursive_value : Option Located → Bool
is_recursive_value None = false
is_recursive_value (Some value) = is_recursive (without_parens value)

-- whether a node is an entry whose value is a set with `rec`
abbrev pub has_recursive_value : Located → Bool
has_recursive_value e = same_kind k.NODE_ATTRPATH_VALUE (item_of e).kind && is_recursive_value (child_of is_expr 0 e)

-- whether the value of an entry is a set with `rec`; where there is none, no entry can add to a scope
abbrev pub may_merge : Located → Bool
may_merge root = list_any has_recursive_value (nodes_in (elements_of root))

-- the second of these nodes
abbrev pub second : List Located → Option Located
second (first ∷ next ∷ others) = Some next
second nodes = None

-- the last of these nodes, or else a given one
abbrev pub last_or : Option Located → List Located → Option Located
last_or found [] = found
last_or found (e ∷ es) = last_or (Some e) es

-- the owner of a name of a path: the name before it, or else the set or `let` with the entry
abbrev pub owner_of : Located → Option Located
owner_of name = option_or (second (nodes_in (siblings_of Prev name))) (option_and_then parent_of (option_and_then parent_of (parent_of name)))

-- the last name of a path
abbrev pub last_name : Option Located → Option Located
last_name None = None
last_name (Some path) = last_or None (nodes_of is_attr path)

-- whether a node is the path of an entry
abbrev pub is_entry : Option Located → Bool
is_entry None = false
is_entry (Some e) = same_kind k.NODE_ATTRPATH_VALUE (item_of e).kind

abbrev pub is_entry_path : Located → Bool
is_entry_path e = same_kind k.NODE_ATTRPATH (item_of e).kind && is_entry (parent_of e)

-- the owner of a node with a parent: an entry's set, or the owner of the name of a path, which a value shares with the last name of its path
abbrev pub owner_below : Located → Located → Option Located
owner_below parent e =
    if same_kind k.NODE_ATTR_SET (item_of parent).kind then Some parent
    else (if is_entry_path parent then owner_of e
    else (if same_kind k.NODE_ATTRPATH_VALUE (item_of parent).kind && not (same_kind k.NODE_ATTRPATH (item_of e).kind)
    then option_and_then owner_of (last_name (child_of (same_kind k.NODE_ATTRPATH) 0 parent))
    else None))

-- the number of the node around a node with a parent: that of the set to which it belongs, or else that of its parent
abbrev pub number_around : Located → Located → Located → ℕ
number_around root parent e = unwrap_or (option_map (λ owner. home_in root owner.number) (owner_below parent e)) parent.number

abbrev pub around_below : Located → Located → Located → Located
around_below root parent e = record { tree = e.tree; number = number_around root parent e }

-- the node, if it is a node inside the root that begins before another one
abbrev pub if_before : Located → Located → Located → Option Located
if_before root e outer =
    if nat_le root.number outer.number && (nat_lt outer.number e.number && (item_of outer).is_node) then Some outer else None

-- the node around a node, if it is inside the root
abbrev pub outer_of : Located → Located → Option Located
outer_of root e = option_and_then (λ parent. if_before root e (around_below root parent e)) (parent_of e)

-- a node and so many of the nodes around it, innermost first
abbrev pub around_from : ℕ → Located → Located → List Located
around_from zero root e = []
around_from (suc count) root e = e ∷ flat_map (around_from count root) (option_to_list (outer_of root e))

-- a node and the nodes around it: each begins before the one inside it
abbrev pub merged_around : Located → Located → List Located
merged_around root e = around_from (e.number + 1) root e
