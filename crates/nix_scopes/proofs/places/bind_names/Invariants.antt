use Rattle.{std.proofs.Common.{◌≡◌, ℕ, List, Option, ◌++◌, map, take}, nix_scopes.specs.{Binders.named, Bound.{bound_of, AreFirst}, Scopes.bound_in}}
use Rattle.nix_scopes.specs.NodePlaces.{IsOpening, KeepsMaps}
use Rattle.nix_scopes.proofs.places.bind_names.Given as goal

abbrev pub invariant-loop-name : goal.invariant-loop-name
invariant-loop-name l = record {
  bindings : map bound_of l.bindings.items ≡ map bound_of l.fn.bindings.items ++ map (bound_in l.scope) (map named (take l.name-index l.names));
  opening : (outer : List ℕ → Option ℕ) → IsOpening outer (map bound_of l.fn.bindings.items) l.fn.maps l.scope_map l.first l.scope →
      IsOpening outer (map bound_of l.bindings.items) l.maps l.made l.first l.scope;
  firsts : (outer : List ℕ → Option ℕ) → IsOpening outer (map bound_of l.fn.bindings.items) l.fn.maps l.scope_map l.first l.scope →
      AreFirst l.fn.bindings.items → AreFirst l.bindings.items;
  kept : KeepsMaps l.fn.maps l.maps;
}
