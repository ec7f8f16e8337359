use Rattle.std.proofs.Common.{ℕ, List, Option, map}
use Rattle.nix_scopes.specs.{Bound.bound_of, Resolving.{IsShadowed, IsRestored}}
use Rattle.nix_scopes.proofs.symbols.restore_shadowed.Given as goal

abbrev pub invariant-loop-number : goal.invariant-loop-number
invariant-loop-number l =
    (outer : List ℕ → Option ℕ) → IsShadowed outer (map bound_of l.bindings) l.fn.numbers l.shadowed l.fn.scope → (text : List ℕ) →
    IsRestored outer (map bound_of l.bindings) l.fn.scope.first l.number l.fn.numbers l.numbers text
