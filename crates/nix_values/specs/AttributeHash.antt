-- The hash of an attribute: that of the number of its set, followed by the bytes of its name.
use Rattle.std.specs.Prelude.{ℕ, List}
use Rattle.std.specs.List.{fold}
use Rattle.std.specs.Hash as fed
use Rattle.std.specs.Hash.FoldHasher as folding

-- the hash of the attribute with a name in a set
unfoldable pub attribute_hash : ℕ → List ℕ → ℕ
attribute_hash set name = folding.finish (folding.write (fold folding.write folding.initial (fed.usize set)) name)
