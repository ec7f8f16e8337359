-- Values that are being read, in the order in which they were found, each with its parent: the list or set that contains it.
use Rattle.std.specs.Prelude.{ℕ, zero, suc, ◌&&◌, nat_lt, Bool, true, false, List, length, slice_get, Option, Some, None, option_and_then, if◌then◌else◌, string_bytes}
use Rattle.nix_values.specs.declared.nodes.Node.{Node}
use Rattle.nix_values.specs.Contents.{Plain, plain_of}
use Rattle.nix_values.specs.Contents as contents
use Rattle.nix_values.specs.Keys.{Keys, is_key}

-- a value without the values inside it, with the number of its parent, and its name
pub record Built : Type 0 where
  pub parent : Option ℕ
  pub name : List ℕ
  pub plain : Plain

abbrev pub built_of : Node → Built
built_of node = record { parent = node.parent; name = string_bytes node.name; plain = plain_of node.value }

abbrev pub is_set_plain : Plain → Bool
is_set_plain contents.set = true
is_set_plain _ = false

abbrev pub is_set_found : Option Built → Bool
is_set_found None = false
is_set_found (Some found) = is_set_plain found.plain

-- whether the value with a number exists and is a set
abbrev pub is_set_at : List Built → ℕ → Bool
is_set_at values number = is_set_found (slice_get values number)

-- a value is an attribute if its parent is a set that precedes it
abbrev pub keys_of : List Built → Keys
keys_of values number =
    option_and_then
    (λ found. option_and_then
    (λ parent. if nat_lt parent number && is_set_at values parent then Some (parent, found.name) else None)
    found.parent)
    (slice_get values number)

-- the last of the first values, as many as given, that is the attribute with a name in a set
abbrev pub last_of : Keys → ℕ → ℕ → List ℕ → Option ℕ
last_of keys zero set name = None
last_of keys (suc number) set name = if is_key (keys number) set name then Some number else last_of keys number set name

-- the attribute with a name in a set: the last value with this name inside the set
abbrev pub attribute_of : List Built → ℕ → List ℕ → Option ℕ
attribute_of values set name = last_of (keys_of values) (length values) set name
