use Rattle.std.proofs.Common.{◌≡◌, ◌≤◌, ◌-◌}
use Rattle.nix_scopes.specs.BitTries.{key_bits, value_at}
use Rattle.nix_scopes.proofs.trie.Tries.get.Given as goal

abbrev pub invariant-loop-bit : goal.invariant-loop-bit
invariant-loop-bit l = record {
  low : l._bit ≤ key_bits;
  same : value_at (key_bits - l._bit) l.self.branches.items l.at l.bits ≡ value_at key_bits l.self.branches.items l.root l.key;
}
