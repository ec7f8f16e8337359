-- The error nodes of errors, and the nodes around them.
use Rattle.std.specs.Prelude.{◌≡◌, ℕ, ◌==◌, ◌<◌, nat_lt, ◌&&◌, Bool, true, false, not, find, Option, Some, None, option_map, if◌then◌else◌}
use Rattle.rnix_kinds.specs.declared.kinds.SyntaxKind.{SyntaxKind}
use Rattle.rnix_kinds.specs.declared.kinds.SyntaxKind.TheVariants.{NODE_LIST, NODE_PATTERN, NODE_STRING, NODE_DYNAMIC, NODE_INHERIT}
use Rattle.rnix_kinds.specs.declared.kinds.SyntaxKind.TheVariants.{NODE_ATTRPATH_VALUE}
use Rattle.rnix_green.specs.Range.{Extent}
use Rattle.rnix_green.specs.Tree.{Located, item_of, extent_of, IsTokenAt}
use Rattle.rnix_green.specs.Walk.{Spot, elements_of}
use Rattle.rnix_green.specs.Relatives.{parent_of}
use Rattle.rnix_grammar.specs.Fault.{Fault, duplicated_args, same_extent}
use Rattle.rnix_grammar.specs.Ranges.{range_in, is_error_node}
use Rattle.rnix.specs.WholeTree.{IsInTree}

-- an element of a walk is a token that starts at an offset and is not empty
abbrev pub starts_at : ℕ → Spot → Bool
starts_at offset spot = not spot.0 && ((item_of spot.1).start == offset && nat_lt offset (item_of spot.1).end)

-- the token that starts at an offset, if one does
abbrev pub token_from : Located → ℕ → Option Located
token_from root offset = option_map (λ (spot : Spot). spot.1) (find (starts_at offset) (elements_of root))

-- the token starts at an offset, and is not empty
pub record IsFrom (root : Located) (offset : ℕ) (token : Located) : Type 0 where
  pub tree : IsInTree root token
  pub is_token : IsTokenAt token
  pub start : (item_of token).start ≡ offset
  pub some : offset < (item_of token).end

-- the node around a token, if there is one
abbrev pub node_around : Option Located → Option Located
node_around None = None
node_around (Some token) = parent_of token

-- a node, if it is an error node with the range
abbrev pub if_error : Extent → Option Located → Option Located
if_error range None = None
if_error range (Some node) = if is_error_node (item_of node).kind && same_extent (extent_of node) range then Some node else None

-- the node around the token with which a range begins, if it is an error node with this range
abbrev pub error_at : Located → Option Extent → Option Located
error_at root None = None
error_at root (Some range) = if_error range (node_around (token_from root range.start))

-- the range of an error, unless it is about a repeated name, which has no error node
abbrev pub node_range : Fault → Option Extent
node_range (duplicated_args range name) = None
node_range fault = range_in fault

-- the error node of an error, if it has one
abbrev pub error_node : Located → Fault → Option Located
error_node root fault = error_at root (node_range fault)

-- one mistake in a node of this kind leads to several errors
abbrev pub is_group : SyntaxKind → Bool
is_group NODE_LIST = true
is_group NODE_PATTERN = true
is_group NODE_STRING = true
is_group NODE_DYNAMIC = true
is_group NODE_INHERIT = true
is_group NODE_ATTRPATH_VALUE = true
is_group kind = false

-- the range of a node, if it is a list, pattern, string, interpolated name, `inherit` or entry
abbrev pub range_if_group : Option Located → Option Extent
range_if_group None = None
range_if_group (Some node) = if is_group (item_of node).kind then Some (extent_of node) else None

-- the range of a node's parent, if that is a list, pattern, string, interpolated name, `inherit` or entry
abbrev pub group_around : Option Located → Option Extent
group_around None = None
group_around (Some node) = range_if_group (parent_of node)

-- the range of the parent of an error's error node, if that is a list, pattern, string, interpolated name, `inherit` or entry
abbrev pub group_of : Located → Fault → Option Extent
group_of root fault = group_around (error_node root fault)

-- there are two ranges, and they are equal
abbrev pub are_same_range : Option Extent → Option Extent → Bool
are_same_range (Some a) (Some b) = same_extent a b
are_same_range a b = false
