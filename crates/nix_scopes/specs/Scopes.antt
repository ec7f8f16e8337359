-- Lexical scope: which binding each name refers to.
use Rattle.std.specs.Prelude.{ℕ, ◌==◌, ◌&&◌, nat_le, Bool, false, List, [], ◌∷◌, map, drop, filter, flat_map, Option, Some, None, is_some, not, if◌then◌else◌}
use Rattle.std.specs.List.{list_any, position_from}
use Rattle.std.specs.Option.{option_or}
use Rattle.std.specs.Str.{bytes_eq}
use Rattle.rnix_kinds.specs.declared.kinds.SyntaxKind.TheVariants as k
use Rattle.rnix_green.specs.Equality.{same_kind}
use Rattle.rnix_green.specs.Tree.{Located, item_of}
use Rattle.rnix_green.specs.Walk.{nodes_in, elements_of, ancestors_of}
use Rattle.rnix_green.specs.Relatives.{parent_of}
use Rattle.nix_scopes.specs.Globals.{is_global}
use Rattle.nix_scopes.specs.Names.{Named}
use Rattle.nix_scopes.specs.Binders.{names_bound, is_scope}
use Rattle.nix_scopes.specs.References.{is_after_node, references_at}

-- a name that a scope binds, and the node that writes it
pub record Bound : Type 0 where
  pub text : List ℕ
  pub node : Located
  pub scope : Located

-- a name that a scope binds
abbrev pub bound_in : Located → Named → Bound
bound_in scope name = record { text = name.text; node = name.node; scope = scope }

-- what a node binds, if it is a scope
abbrev pub bindings_at : Located → List Bound
bindings_at e = if is_scope e then map (bound_in e) (names_bound e) else []

-- all bindings inside a node, in the order of their scopes
abbrev pub lexical_bindings : Located → List Bound
lexical_bindings root = flat_map bindings_at (nodes_in (elements_of root))

-- a node and the nodes around it, up to the root, innermost first
abbrev pub around : Located → Located → List Located
around root e = filter (λ a. nat_le root.number a.number) (ancestors_of e)

-- the scopes among these nodes in which the names of a node inside them are looked up: an `inherit` takes them from outside its set or `let`
abbrev pub scopes_of : List Located → Located → List Located
scopes_of nodes e = filter is_scope (drop (if same_kind k.NODE_INHERIT (item_of e).kind then 2 else 0) nodes)

-- whether this binding binds the name in the scope
abbrev pub binds : Located → List ℕ → Bound → Bool
binds scope text bound = (bound.scope.number == scope.number) && bytes_eq bound.text text

-- the number of the first binding of a name in a scope: its index among all bindings
abbrev pub number_in : List Bound → List ℕ → Located → Option ℕ
number_in bindings text scope = position_from (binds scope text) 0 bindings

-- the number of the binding of a name in the first of these scopes that binds it
abbrev pub innermost : List Bound → List ℕ → List Located → Option ℕ
innermost bindings text [] = None
innermost bindings text (scope ∷ outer) = option_or (number_in bindings text scope) (innermost bindings text outer)

-- whether a node is the body of a `with`, given its parent
abbrev pub is_body_below : Option Located → Located → Bool
is_body_below None e = false
is_body_below (Some parent) e = same_kind k.NODE_WITH (item_of parent).kind && is_after_node e

-- whether a node is the body of a `with`
abbrev pub is_with_body : Located → Bool
is_with_body e = is_body_below (parent_of e) e

-- a name, whether it is inherited, the number of its binding, and whether its value may come from a `with`
pub record Resolved : Type 0 where
  pub text : List ℕ
  pub node : Located
  pub is_inherited : Bool
  pub binding : Option ℕ
  pub is_open : Bool

-- a name with its binding; without a binding, the name is open if it is below a `with`, unless Nix itself binds it
abbrev pub resolved : Bool → Bool → Option ℕ → Named → Resolved
resolved is_inherited below_with binding name =
    record {
      text = name.text;
      node = name.node;
      is_inherited = is_inherited;
      binding = binding;
      is_open = not (is_some binding) && (below_with && not (is_global name.text));
    }

-- what a reference of a node refers to, given all bindings and the nodes around the node
abbrev pub resolved_among : List Bound → List Located → Located → Named → Resolved
resolved_among bindings nodes e name =
    resolved (same_kind k.NODE_INHERIT (item_of e).kind) (list_any is_with_body nodes) (innermost bindings name.text (scopes_of nodes e)) name

-- the references of a node, with what they refer to
abbrev pub resolved_at : Located → Located → List Resolved
resolved_at root e = map (resolved_among (lexical_bindings root) (around root e) e) (references_at e)

-- the references inside a node, in preorder: each refers to the binding of its name in the innermost scope around it
-- that binds the name
abbrev pub lexical_references : Located → List Resolved
lexical_references root = flat_map (resolved_at root) (nodes_in (elements_of root))
