-- Names that a set has twice.
use Rattle.std.specs.Prelude.{◌≡◌, ℕ, zero, suc, ◌<◌, nat_lt, Bool, false, List, slice_get, Option, Some, None, option_and_then, if◌then◌else◌}
use Rattle.nix_values.specs.Contents.{Entry}
use Rattle.nix_values.specs.Built.{is_set_plain}
use Rattle.nix_values.specs.Keys.{Keys}

-- whether there is a value, and its depth is less than the given one
abbrev pub is_outside : Option Entry → ℕ → Bool
is_outside None depth = false
is_outside (Some entry) depth = nat_lt entry.depth depth

-- the last of the first values, as many as given, whose depth is less than the given one
abbrev pub last_outside : List Entry → ℕ → ℕ → Option ℕ
last_outside entries zero depth = None
last_outside entries (suc number) depth = if is_outside (slice_get entries number) depth then Some number else last_outside entries number depth

abbrev pub is_set_entry : Option Entry → Bool
is_set_entry None = false
is_set_entry (Some entry) = is_set_plain entry.plain

-- a value is an attribute if its parent, the last value before it with less depth, is a set
abbrev pub entry_key : List Entry → ℕ → Entry → Option (ℕ × List ℕ)
entry_key entries number entry =
    option_and_then (λ parent. if is_set_entry (slice_get entries parent) then Some (parent, entry.name) else None) (last_outside entries number entry.depth)

abbrev pub entry_keys : List Entry → Keys
entry_keys entries number = option_and_then (entry_key entries number) (slice_get entries number)

-- a set has two values with one name
pub record HasRepeatedName (entries : List Entry) : Type 0 where
  pub first : ℕ
  pub second : ℕ
  pub set : ℕ
  pub name : List ℕ
  pub apart : first < second
  pub one : entry_keys entries first ≡ Some (set, name)
  pub other : entry_keys entries second ≡ Some (set, name)

-- no set has two values with one name
abbrev pub HasDistinctNames : List Entry → Type 0
HasDistinctNames entries = HasRepeatedName entries → ⊥
