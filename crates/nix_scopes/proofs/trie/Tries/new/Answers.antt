use Rattle.std.proofs.Common.{rules}
use Rattle.nix_scopes.proofs.TrieLemmas.{empty_map}
use Rattle.nix_scopes.proofs.trie.Tries.new.Goals as goal

pub returns : goal.returns
returns c = empty_map c.push.new.self.items (search rules)
