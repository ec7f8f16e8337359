use Rattle.{std.proofs.Common.{ℕ, ◌≤◌, ◌<◌}, rnix_green.specs.Relatives.IsTokenIn}
use Rattle.rnix_tree.proofs.relatives.last_token.Given as goal

abbrev pub invariant-loop-number : goal.invariant-loop-number
invariant-loop-number l = (l.number ≤ l.end) × ((m : ℕ) → l.number ≤ m → m < l.end → ¬ IsTokenIn l.green m)

abbrev pub decreases-loop-number : goal.decreases-loop-number
decreases-loop-number l = l.number
