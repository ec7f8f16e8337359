-- Which binding each name refers to, where entries add to sets: an entry belongs to the set of the first definition, which alone says whether it is a scope.
use Rattle.std.specs.Prelude.{ℕ, ◌==◌, ◌&&◌, not, Bool, List, [], ◌∷◌, ◌++◌, map, drop, filter, flat_map, Option, Some, None, if◌then◌else◌}
use Rattle.std.specs.List.{list_any}
use Rattle.rnix_kinds.specs.declared.kinds.SyntaxKind.TheVariants as k
use Rattle.rnix_green.specs.Equality.{same_kind}
use Rattle.rnix_green.specs.Tree.{Located, item_of}
use Rattle.rnix_green.specs.Walk.{nodes_in, elements_of}
use Rattle.rnix_green.specs.Relatives.{parent_of}
use Rattle.rnix_base.specs.Select.{nodes_of, child_of}
use Rattle.rnix.specs.AttrName.{static_name}
use Rattle.rnix.specs.NodeKinds.{is_attr}
use Rattle.nix_attributes.specs.Repeated.{home_in}
use Rattle.nix_scopes.specs.Names.{Named, named_if}
use Rattle.nix_scopes.specs.Binders.{names_bound, is_scope}
use Rattle.nix_scopes.specs.References.{references_at}
use Rattle.nix_scopes.specs.Scopes.{Bound, bound_in, innermost, is_with_body, Resolved, resolved}
use Rattle.nix_scopes.specs.Owners.{merged_around}

-- a name, with the number of its owner: the name before it in its path, or else the set or `let` with its entry
abbrev pub Owned : Type 0
Owned = ℕ × Named

-- an attribute's name with its owner, if the text alone determines it
abbrev pub owned_by : ℕ → Located → List Owned
owned_by owner attr = map (λ name. (owner, name)) (named_if attr (static_name attr))

-- the names of a path, whose first name has an owner
abbrev pub owned_names : ℕ → List Located → List Owned
owned_names owner [] = []
owned_names owner (attr ∷ attrs) = owned_by owner attr ++ owned_names attr.number attrs

-- the same, for a path that may be missing
abbrev pub owned_in : ℕ → Option Located → List Owned
owned_in owner None = []
owned_in owner (Some path) = owned_names owner (nodes_of is_attr path)

-- the names that a node in a set or a `let` defines, if it is an entry
abbrev pub owned_below : Option Located → Located → List Owned
owned_below None e = []
owned_below (Some set) e =
    if same_kind k.NODE_INHERIT (item_of e).kind then flat_map (owned_by set.number) (nodes_of is_attr e)
    else (if same_kind k.NODE_ATTRPATH_VALUE (item_of e).kind then owned_in set.number (child_of (same_kind k.NODE_ATTRPATH) 0 e) else [])

abbrev pub owned_at : Located → List Owned
owned_at e = owned_below (parent_of e) e

-- the name of an entry that adds to the set with a number, from another set or path
abbrev pub added_if : Located → ℕ → Owned → List Named
added_if root set own = if (home_in root own.0 == set) && not (own.0 == set) then own.1 ∷ [] else []

-- the names of the entries that add to the set with a number, in order
abbrev pub added_to : Located → ℕ → List Named
added_to root set = flat_map (added_if root set) (flat_map owned_at (nodes_in (elements_of root)))

-- whether the names of a node are in scope inside it: a set that adds to another one is no scope
abbrev pub is_merged_scope : Located → Located → Bool
is_merged_scope root e = is_scope e && (home_in root e.number == e.number)

-- the names that a scope binds: its own, and those of the entries that add to it
abbrev pub merged_names : Located → Located → List Named
merged_names root e = names_bound e ++ added_to root e.number

-- what a node binds, if it is a scope
abbrev pub merged_bindings_at : Located → Located → List Bound
merged_bindings_at root e = if is_merged_scope root e then map (bound_in e) (merged_names root e) else []

-- all bindings inside a node, in the order of their scopes
abbrev pub merged_bindings : Located → List Bound
merged_bindings root = flat_map (merged_bindings_at root) (nodes_in (elements_of root))

-- the scopes among these nodes in which the names of a node inside them are looked up: an `inherit` takes them from outside its set or `let`
abbrev pub merged_scopes : Located → List Located → Located → List Located
merged_scopes root nodes e = filter (is_merged_scope root) (drop (if same_kind k.NODE_INHERIT (item_of e).kind then 2 else 0) nodes)

-- the reference of a node, with the binding to which it refers, given all bindings and the nodes around the node
abbrev pub merged_among : Located → List Bound → List Located → Located → Named → Resolved
merged_among root bindings nodes e name =
    resolved (same_kind k.NODE_INHERIT (item_of e).kind) (list_any is_with_body nodes) (innermost bindings name.text (merged_scopes root nodes e)) name

-- the references of a node, with what they refer to
abbrev pub merged_at : Located → Located → List Resolved
merged_at root e = map (merged_among root (merged_bindings root) (merged_around root e) e) (references_at e)

-- the references inside a node, in preorder
abbrev pub merged_references : Located → List Resolved
merged_references root = flat_map (merged_at root) (nodes_in (elements_of root))
