use Rattle.std.proofs.Common.{◌≡◌, List, length}
use Rattle.{rnix_green.specs.Tree.Located, nix_scopes.{specs.Resolving.counts_after, proofs.EndLemmas.AreRemaining}}
use Rattle.nix_scopes.proofs.environment.leave_bodies.Given as goal

abbrev pub invariant-loop-ends : goal.invariant-loop-ends
invariant-loop-ends l =
    (root : Located) → (bodies : List Located) → l.fn.ends.items ≡ counts_after root bodies →
    AreRemaining root l.remaining (λ rest. Unit {0}) l.ends.items bodies

abbrev pub decreases-loop-ends : goal.decreases-loop-ends
decreases-loop-ends l = length l.ends.items
