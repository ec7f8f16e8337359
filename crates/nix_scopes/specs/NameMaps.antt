-- Maps from names to the numbers of bindings, stored as keys of names and maps from keys.
use Rattle.std.specs.Prelude.{◌≡◌, ◌<◌, ◌≤◌, ◌^◌, ℕ, zero, suc, List, Option, Some, None, if◌then◌else◌}
use Rattle.std.specs.Str.{bytes_eq}
use Rattle.nix_scopes.specs.declared.name_maps.NameMaps.{NameMaps}
use Rattle.nix_scopes.specs.Resolving.{number_by}
use Rattle.nix_scopes.specs.BitTries.{key_bits, value_at, IsMap}

-- the number that is stored as a value: one less, since 0 means that there is none
abbrev pub number_stored : ℕ → Option ℕ
number_stored zero = None
number_stored (suc number) = Some number

-- the number at a key, if there is a key
abbrev pub number_at_key : NameMaps → ℕ → Option ℕ → Option ℕ
number_at_key maps map None = None
number_at_key maps map (Some key) = number_stored (value_at key_bits maps.tries.branches.items map key)

-- the number that a name has in a map
abbrev pub number_in_map : NameMaps → ℕ → List ℕ → Option ℕ
number_in_map maps map text = number_at_key maps map (number_by maps.keys text)

-- each key is that of one name, and those from `count` on are no name's
pub record HaveKeys (maps : NameMaps) : Type 0 where
  pub few : maps.count ≤ 2 ^ key_bits
  pub low : (text : List ℕ) (key : ℕ) → number_by maps.keys text ≡ Some key → key < maps.count
  pub one : (a b : List ℕ) (key : ℕ) → number_by maps.keys a ≡ Some key → number_by maps.keys b ≡ Some key → a ≡ b

-- a map with nothing at the keys that are no name's
pub record IsNameMap (maps : NameMaps) (map : ℕ) : Type 0 where
  pub is_map : IsMap maps.tries.branches.items map
  pub free : (key : ℕ) → maps.count ≤ key → key < 2 ^ key_bits → value_at key_bits maps.tries.branches.items map key ≡ 0

-- there are no names, and 0 is a map
pub record AreEmpty (maps : NameMaps) : Type 0 where
  pub keys : HaveKeys maps
  pub map : IsNameMap maps 0
  pub names : (text : List ℕ) → number_in_map maps 0 text ≡ None

-- the name has the key; other names have the keys that they had
pub record IsKeyed (old new : NameMaps) (text : List ℕ) (key : ℕ) : Type 0 where
  pub keys : (other : List ℕ) → number_by new.keys other ≡ (if bytes_eq text other then Some key else number_by old.keys other)
  pub known : number_by old.keys text ≡ None → key ≡ old.count
  pub same : (k : ℕ) → number_by old.keys text ≡ Some k → key ≡ k
  pub more : old.count ≤ new.count
  pub have : HaveKeys old → HaveKeys new × (key < new.count)
  pub tries : new.tries ≡ old.tries

-- the new map has the number for the name, and is otherwise like an old one; the old ones are as they were
pub record IsBound (old new : NameMaps) (map : ℕ) (text : List ℕ) (number made : ℕ) : Type 0 where
  pub have : HaveKeys old → HaveKeys new
  pub others : HaveKeys old → (other : ℕ) → IsNameMap old other →
      IsNameMap new other × ((name : List ℕ) → number_in_map new other name ≡ number_in_map old other name)
  pub is_map : HaveKeys old → IsNameMap old map → IsNameMap new made
  pub names : HaveKeys old → IsNameMap old map → (name : List ℕ) →
      number_in_map new made name ≡ (if bytes_eq text name then Some number else number_in_map old map name)
