use Rattle.std.proofs.Common.{ℕ, List, length}
use Rattle.{rnix_green.specs.Tree.Located, nix_scopes.{specs.Resolving.{IsSymbolTable, HasScopes}, proofs.EndLemmas.AreRemaining}}
use Rattle.nix_scopes.proofs.environment.leave_scopes.Given as goal

abbrev pub invariant-loop-ends : goal.invariant-loop-ends
invariant-loop-ends l =
    (root : Located) → (n : ℕ) → (scopes : List Located) → HasScopes root l.bindings l.fn.symbols l.fn.ends.items n scopes →
    AreRemaining root l.remaining (IsSymbolTable l.bindings l.symbols n) l.ends.items scopes

abbrev pub decreases-loop-ends : goal.decreases-loop-ends
decreases-loop-ends l = length l.ends.items
