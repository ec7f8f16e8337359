use Rattle.{std.proofs.Common.{◌≡◌, ℕ, List, Option, ◌++◌, map, take}, nix_scopes.specs.{Binders.named, Bound.{bound_of, AreFirst}, Scopes.bound_in}}
use Rattle.nix_scopes.specs.Resolving.{IsBinding, IsLonger}
use Rattle.nix_scopes.proofs.symbols.bind_names.Given as goal

abbrev pub invariant-loop-name : goal.invariant-loop-name
invariant-loop-name l = record {
  bindings : map bound_of l.bindings.items ≡ map bound_of l.fn.bindings.items ++ map (bound_in l.scope) (map named (take l.name-index l.names));
  binding : (outer : List ℕ → Option ℕ) → IsBinding outer (map bound_of l.fn.bindings.items) l.fn.numbers l.fn.shadowed.items l.first l.scope →
      IsBinding outer (map bound_of l.bindings.items) l.numbers l.shadowed.items l.first l.scope;
  firsts : (outer : List ℕ → Option ℕ) → IsBinding outer (map bound_of l.fn.bindings.items) l.fn.numbers l.fn.shadowed.items l.first l.scope →
      AreFirst l.fn.bindings.items → AreFirst l.bindings.items;
  longer : IsLonger l.fn.shadowed.items l.shadowed.items;
}
