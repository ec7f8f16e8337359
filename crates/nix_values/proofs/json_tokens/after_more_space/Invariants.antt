use Rattle.std.proofs.Common.{◌≡◌, ◌<◌, ◌≤◌, ℕ, true, drop, get_or}
use Rattle.nix_values.specs.Json.{is_space, tokens_behind}
use Rattle.nix_values.proofs.json_tokens.after_more_space.Given as goal

abbrev pub invariant-loop-next : goal.invariant-loop-next
invariant-loop-next l = record {
  same : tokens_behind 0 (drop l.next l.bytes) ≡ tokens_behind 0 (drop l.at l.bytes);
  spaces : (i : ℕ) → l.at ≤ i → i < l.next → is_space (get_or l.bytes i 0) ≡ true;
}
