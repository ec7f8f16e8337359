use Rattle.std.proofs.Common.{◌≡◌, ◌≤◌, ◌<◌, ◌-◌, List, length}
use Rattle.nix_scopes.specs.declared.trie.Branch.{Branch}
use Rattle.nix_scopes.specs.BitTries.{key_bits, IsWithin}
use Rattle.nix_scopes.proofs.TrieLemmas.{Extends, IsWay}
use Rattle.nix_scopes.proofs.trie.Tries.with.Given as goal

abbrev pub invariant-loop-bit : goal.invariant-loop-bit
invariant-loop-bit l = record {
  low : l.bit ≤ key_bits;
  longer : Extends l.fn.self.branches.items l.self.branches.items;
  next_is : l.bit < key_bits → l.next ≡ length l.self.branches.items;
  last_is : l.bit ≡ key_bits → l.next ≡ l.number;
  within : IsWithin key_bits l.fn.self.branches.items l.root l.key → IsWithin (key_bits - l.bit) l.fn.self.branches.items l.at l.bits;
  way : IsWithin key_bits l.fn.self.branches.items l.root l.key → (final : List Branch) → Extends l.self.branches.items final →
      IsWay (key_bits - l.bit) l.fn.self.branches.items final l.at l.next l.bits l.number →
      IsWay key_bits l.fn.self.branches.items final l.root l.first l.key l.number;
}
