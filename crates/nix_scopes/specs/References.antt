-- Which names are references: those that are expressions, and those that are inherited from outside their set or `let`.
use Rattle.std.specs.Prelude.{◌&&◌, Bool, true, false, List, [], ◌∷◌, Option, Some, None, flat_map, if◌then◌else◌}
use Rattle.rnix_kinds.specs.declared.kinds.SyntaxKind.{SyntaxKind}
use Rattle.rnix_kinds.specs.declared.kinds.SyntaxKind.TheVariants as k
use Rattle.rnix_green.specs.Equality.{same_kind}
use Rattle.rnix_green.specs.Tree.{Located, item_of, text_at}
use Rattle.rnix_green.specs.Walk.{nodes_in, elements_of}
use Rattle.rnix_green.specs.Relatives.{parent_of}
use Rattle.rnix_tree.specs.declared.siblings.Direction.TheVariants.{Prev}
use Rattle.rnix_tree.specs.Siblings.{siblings_of}
use Rattle.rnix_base.specs.Select.{nodes_of, child_of}
use Rattle.rnix.specs.NodeKinds.{is_attr}
use Rattle.nix_scopes.specs.Names.{Named, names_written}

-- whether the list has at least two elements
abbrev pub has_two : List Located → Bool
has_two (a ∷ b ∷ others) = true
has_two others = false

-- whether another node comes before this one among the children of its parent
abbrev pub is_after_node : Located → Bool
is_after_node e = has_two (nodes_in (siblings_of Prev e))

-- whether an identifier in a parent of the kind is an expression, and not a name that is selected, inherited or bound; in the entry of a pattern,
-- an identifier after the name is the default
abbrev pub is_value_below : SyntaxKind → Located → Bool
is_value_below k.NODE_ATTRPATH e = false
is_value_below k.NODE_INHERIT e = false
is_value_below k.NODE_IDENT_PARAM e = false
is_value_below k.NODE_PAT_BIND e = false
is_value_below k.NODE_PAT_ENTRY e = is_after_node e
is_value_below _ e = true

-- the same, for a parent that may be missing
abbrev pub is_value_in : Option Located → Located → Bool
is_value_in None e = false
is_value_in (Some parent) e = is_value_below (item_of parent).kind e

-- whether a node is a name that is an expression
abbrev pub is_expression : Located → Bool
is_expression e = same_kind (item_of e).kind k.NODE_IDENT && is_value_in (parent_of e) e

-- the names of an `inherit`, unless it takes them from an expression
abbrev pub inherited_from : Option Located → Located → List Named
inherited_from (Some from) e = []
inherited_from None e = names_written (nodes_of is_attr e)

-- the names that an `inherit` takes from outside its set or `let`
abbrev pub inherited_at : Located → List Named
inherited_at e = inherited_from (child_of (same_kind k.NODE_INHERIT_FROM) 0 e) e

-- the references of a node: the node itself if it is a name that is an expression, or the names that an `inherit` takes from outside
abbrev pub references_at : Located → List Named
references_at e =
    if is_expression e then record { text = text_at e; node = e } ∷ [] else (if same_kind k.NODE_INHERIT (item_of e).kind then inherited_at e else [])

-- the references inside a node, in preorder
abbrev pub references_in : Located → List Named
references_in root = flat_map references_at (nodes_in (elements_of root))
