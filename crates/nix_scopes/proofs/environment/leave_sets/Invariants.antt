use Rattle.std.proofs.Common.{◌≡◌, List, length}
use Rattle.{rnix_green.specs.Tree.Located, nix_scopes.{specs.Resolving.{HasSets, which_are_scopes}, proofs.EndLemmas.AreRemaining}}
use Rattle.nix_scopes.proofs.environment.leave_sets.Given as goal

abbrev pub invariant-loop-ends : goal.invariant-loop-ends
invariant-loop-ends l =
    (root : Located) → (sets : List Located) → HasSets root l.fn.ends.items l.fn.scopes.items sets →
    AreRemaining root l.remaining (λ rest. l.scopes.items ≡ which_are_scopes rest) l.ends.items sets

abbrev pub decreases-loop-ends : goal.decreases-loop-ends
decreases-loop-ends l = length l.ends.items
