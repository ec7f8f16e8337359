-- The values that a Nix text defines: those that its expression adds to an empty list. The attributes of a set may be defined in several places.
use Rattle.std.specs.Prelude.{◌≡◌, ◌==◌, ℕ, zero, suc, nat_le, Bool, true, ◌&&◌, List, [], ◌∷◌, ◌++◌, length, Option, Some, None, is_some, option_map, option_and_then, if◌then◌else◌}
use Rattle.rnix_kinds.specs.declared.kinds.SyntaxKind.{SyntaxKind}
use Rattle.rnix_kinds.specs.declared.kinds.SyntaxKind.TheVariants as k
use Rattle.rnix_green.specs.Equality.{same_kind}
use Rattle.rnix_green.specs.Tree.{Located, item_of}
use Rattle.rnix_green.specs.Walk.{nodes_in, children_of}
use Rattle.rnix_base.specs.Select.{nodes_of, child_of, token_of}
use Rattle.rnix.specs.NodeKinds.{is_attr}
use Rattle.nix_values.specs.Contents.{Plain, list, set, Entry}
use Rattle.nix_values.specs.Built.{Built, is_set_at, attribute_of}
use Rattle.nix_values.specs.Preorder.{preorder}
use Rattle.nix_data.specs.declared.nix_reader.TheConstants.{LEVELS}
use Rattle.nix_data.specs.Meaning.{key_of}
use Rattle.nix_data.specs.Scalars.{scalar_of}
use Rattle.nix_data.specs.Misread.{IsReadAlike}

-- where an expression adds its value: outermost; inside the list or set with the first number, in a text that begins after as many values as the second
-- number; as an attribute with a name in the set with a number; or nowhere
pub data Place : Type 0 where
  outermost : Place
  inside : ℕ → ℕ → Place
  attribute : ℕ → List ℕ → Place
  nowhere : Place

-- the number of the value that contains a place
abbrev pub parent_at : Place → Option ℕ
parent_at outermost = None
parent_at (inside number first) = Some number
parent_at (attribute number name) = Some number
parent_at nowhere = None

-- the name of a value that is added at a place
abbrev pub name_at : Place → List ℕ
name_at outermost = []
name_at (inside number first) = []
name_at (attribute number name) = name
name_at nowhere = []

-- the value that is already at a place: the outermost value, which is the first one, or the attribute with this name
abbrev pub present_at : Place → List Built → Option ℕ
present_at outermost values = if length values == 0 then None else Some 0
present_at (inside number first) values = None
present_at (attribute number name) values = attribute_of values number name
present_at nowhere values = None

-- the values, followed by one that is added at a place
abbrev pub with_value : Place → Plain → List Built → List Built
with_value place plain values = values ++ record { parent = parent_at place; name = name_at place; plain = plain } ∷ []

-- the values after a value is added at a place, unless there is one already
abbrev pub value_added : Place → Plain → List Built → Option (List Built)
value_added nowhere plain values = None
value_added place plain values = if is_some (present_at place values) then None else Some (with_value place plain values)

-- whether attributes can be added to a value: it is a set, and its number is not below `first`. Where two sets have one name, Nix adds the attributes of the
-- second to the first, but does not merge sets inside them: a set of the first is closed to the text of the second.
abbrev pub is_open : ℕ → ℕ → List Built → Bool
is_open first number values = nat_le first number && is_set_at values number

-- the number of the set at a place, and the values with it: the set that is already there, if it is open, or else a new one
abbrev pub set_if : ℕ → Option ℕ → Place → List Built → Option (ℕ × List Built)
set_if first None place values = Some (length values, with_value place set values)
set_if first (Some number) place values = if is_open first number values then Some (number, values) else None

-- the same for what is at the place among some values
abbrev pub set_from : ℕ → Place → List Built → Option (ℕ × List Built)
set_from first nowhere values = None
set_from first place values = set_if first (present_at place values) place values

-- the same for a set that may come from anywhere in the text
abbrev pub set_at : Place → List Built → Option (ℕ × List Built)
set_at place values = set_from 0 place values

-- whether a path can end at an attribute: it does not exist yet, or is an open set
abbrev pub is_free : ℕ → Option ℕ → List Built → Bool
is_free first None values = true
is_free first (Some number) values = is_open first number values

-- the place of the attribute with a name in a set, if a path can end there
abbrev pub attribute_at : ℕ → ℕ → List ℕ → List Built → Option Place
attribute_at first number name values = if is_free first (attribute_of values number name) values then Some (attribute number name) else None

-- where the value of an entry is added, if its path begins with this name and continues with these: each name but the last is that of a set in the one before.
-- The set of the first name must be open, those of the others need not be: they are in it.
abbrev pub path_from : ℕ → ℕ → List ℕ → List Located → List Built → Option (Place × List Built)
path_from first number name [] values = option_map (λ place. (place, values)) (attribute_at first number name values)
path_from first number name (next ∷ attributes) values =
    option_and_then
    (λ inner. option_and_then (λ next_name. path_from 0 inner.0 next_name attributes inner.1) (key_of next))
    (set_from first (attribute number name) values)

-- the place to which a path leads from a set
abbrev pub path_in : ℕ → ℕ → List Located → List Built → Option (Place × List Built)
path_in first number [] values = None
path_in first number (attr ∷ attributes) values = option_and_then (λ name. path_from first number name attributes values) (key_of attr)

-- the place to which the rest of a path leads from the last name before it, or from a set
abbrev pub path_left : ℕ → ℕ → Option (List ℕ) → List Located → List Built → Option (Place × List Built)
path_left first number None attributes values = path_in first number attributes values
path_left first number (Some name) attributes values = path_from first number name attributes values

-- the place at which an entry in a set adds its value
abbrev pub entry_place : Place → Located → List Built → Option (Place × List Built)
entry_place (inside number first) e values =
    option_and_then (λ path. path_in first number (nodes_of is_attr path) values) (child_of (same_kind k.NODE_ATTRPATH) 0 e)
entry_place place e values = None

-- the values after an expression that is neither a list nor a set adds its own; the nodes inside it add none
abbrev pub scalar_begun : Place → Located → List Built → Option (Option Place × List Built)
scalar_begun place e values = option_and_then (λ plain. option_map (λ more. (None, more)) (value_added place plain values)) (scalar_of e)

-- the values after a node of a kind adds its own, and the place at which the nodes inside it add theirs, if they add any
abbrev pub begun_as : SyntaxKind → Place → Located → List Built → Option (Option Place × List Built)
begun_as k.NODE_ROOT place e values = Some (Some place, values)
begun_as k.NODE_PAREN place e values = Some (Some place, values)
begun_as k.NODE_LIST place e values = option_map (λ more. (Some (inside (length values) (length more)), more)) (value_added place list values)
begun_as k.NODE_ATTR_SET place e values =
    if is_some (token_of (same_kind k.TOKEN_REC) e) then None
    else option_map (λ found. (Some (inside found.0 (length found.1)), found.1)) (set_at place values)
begun_as k.NODE_ATTRPATH_VALUE place e values = option_map (λ found. (Some found.0, found.1)) (entry_place place e values)
begun_as k.NODE_ATTRPATH place e values = Some (None, values)
begun_as _ place e values = scalar_begun place e values

-- the same, by the kind of the node
abbrev pub begun : Place → Located → List Built → Option (Option Place × List Built)
begun place e values = begun_as (item_of e).kind place e values

-- the place of a node of a kind, given the place for the next node: the path of an entry has none
abbrev pub place_for : SyntaxKind → Place → Place
place_for kind place = if same_kind k.NODE_ATTRPATH kind then nowhere else place

-- the place that is left after a node has been read: lists and sets have places for several nodes
abbrev pub place_left : Place → Place
place_left (inside number first) = inside number first
place_left place = nowhere

-- the place for the nodes after one of a kind
abbrev pub place_after : SyntaxKind → Place → Place
place_after kind place = if same_kind k.NODE_ATTRPATH kind then place else place_left place

-- the values after some nodes have added theirs, one after another, the first one at this place
abbrev pub all_added : (Place → Located → List Built → Option (List Built)) → Place → List Located → List Built → Option (List Built)
all_added add place [] values = Some values
all_added add place (node ∷ nodes) values =
    option_and_then
    (all_added add (place_after (item_of node).kind place) nodes)
    (add (place_for (item_of node).kind place) node values)

-- the values after the nodes inside a node have added theirs, if they add any
abbrev pub inside_added : (Place → Located → List Built → Option (List Built)) → Located → Option Place × List Built → Option (List Built)
inside_added add e (None, values) = Some values
inside_added add e (Some place, values) = all_added add place (nodes_in (children_of e)) values

-- the values after a node has added its own and those of the nodes inside it, which nest less than `levels` deep
unfoldable pub added : ℕ → Place → Located → List Built → Option (List Built)
added zero place e values = None
added (suc levels) place e values = option_and_then (inside_added (added levels) e) (begun place e values)

-- the values of a tree, in the order in which the text defines them
abbrev pub values_of : Located → Option (List Built)
values_of root = added LEVELS outermost root []

-- these are the data of a tree: each value is followed by the values inside it
abbrev pub HasData : Located → List Entry → Type 0
HasData root entries = option_map preorder (values_of root) ≡ Some entries

-- a tree has no data that Nix reads alike: it has no values, or Nix reads one of its tokens differently
abbrev pub HasNoData : Located → Type 0
HasNoData root = IsReadAlike root → values_of root ≡ None
