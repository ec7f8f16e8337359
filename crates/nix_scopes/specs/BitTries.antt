-- Maps from numbers to numbers that share branches: binary trees over the bits of a number, the lowest bit first.
use Rattle.std.specs.Prelude.{◌≡◌, ◌<◌, ◌==◌, ◌/◌, ◌%◌, ◌^◌, ℕ, zero, suc, List, length, get_or, if◌then◌else◌}
use Rattle.nix_scopes.specs.declared.trie.Branch.{Branch}
use Rattle.nix_scopes.specs.declared.trie.TheConstants.{KEY_BITS}

-- the number of bits of a key
unfoldable pub key_bits : ℕ
key_bits = KEY_BITS

-- the branch with a number; one that is not there is empty
abbrev pub branch_at : List Branch → ℕ → Branch
branch_at branches number = get_or branches number record { even = 0; odd = 0 }

-- what is at one side of a branch
abbrev pub side : Branch → ℕ → ℕ
side branch bit = if bit == 0 then branch.even else branch.odd

-- what a map whose keys have so many bits has at a key: 0 if nothing is there
unfoldable pub value_at : ℕ → List Branch → ℕ → ℕ → ℕ
value_at zero branches root key = root
value_at (suc bits) branches root key = value_at bits branches (side (branch_at branches root) (key % 2)) (key / 2)

-- the branches on the way to a key are there
unfoldable pub IsWithin : ℕ → List Branch → ℕ → ℕ → Type 0
IsWithin zero branches root key = Unit {0}
IsWithin (suc bits) branches root key = (root < length branches) × IsWithin bits branches (side (branch_at branches root) (key % 2)) (key / 2)

-- all branches of a map are there
abbrev pub IsMap : List Branch → ℕ → Type 0
IsMap branches root = (key : ℕ) → IsWithin key_bits branches root key

-- branches have been added: maps stay as they are, and the new one has a number at a key, and is otherwise like an old one
pub record IsUpdated (old new : List Branch) (root key number made : ℕ) : Type 0 where
  pub others : (map : ℕ) → IsMap old map → IsMap new map × ((k : ℕ) → value_at key_bits new map k ≡ value_at key_bits old map k)
  pub is_map : IsMap old root → IsMap new made
  pub own : IsMap old root → value_at key_bits new made key ≡ number
  pub rest : IsMap old root → (k : ℕ) → k < 2 ^ key_bits → key < 2 ^ key_bits → (k ≡ key → ⊥) →
      value_at key_bits new made k ≡ value_at key_bits old root k
