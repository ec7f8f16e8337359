use Rattle.{std.proofs.Common.{ℕ, ◌≤◌, ◌<◌}, rnix_green.specs.Relatives.IsTokenIn}
use Rattle.rnix_tree.proofs.relatives.first_token.Given as goal

abbrev pub invariant-loop-number : goal.invariant-loop-number
invariant-loop-number l = (m : ℕ) → l.from ≤ m → m < l.number → ¬ IsTokenIn l.green m
