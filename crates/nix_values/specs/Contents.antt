-- Data as a list: the values in order, each with its depth (the number of lists and sets around it) and its name. A text is its bytes.
use Rattle.std.specs.Prelude.{ℕ, ℤ, Bool, true, false, List, map, string_bytes}
use Rattle.nix_values.specs.declared.data.Value.{Value}
use Rattle.nix_values.specs.declared.data.Value.TheVariants as value
use Rattle.nix_values.specs.declared.data.Item.{Item}
use Rattle.nix_values.specs.declared.data.Data.{Data}

-- a value without the values inside it
pub data Plain : Type 0 where
  null : Plain
  boolean : Bool → Plain
  integer : ℤ → Plain
  float : List ℕ → Plain
  text : List ℕ → Plain
  list : Plain
  set : Plain

-- whether a value contains others
abbrev pub has_parts : Plain → Bool
has_parts list = true
has_parts set = true
has_parts _ = false

-- a value with its depth and name
pub record Entry : Type 0 where
  pub depth : ℕ
  pub name : List ℕ
  pub plain : Plain

abbrev pub plain_of : Value → Plain
plain_of value.Null = null
plain_of (value.Bool b) = boolean b
plain_of (value.Integer n) = integer n
plain_of (value.Float digits) = float (string_bytes digits)
plain_of (value.Text t) = text (string_bytes t)
plain_of value.List = list
plain_of value.Set = set

abbrev pub entry_of : Item → Entry
entry_of item = record { depth = item.depth; name = string_bytes item.name; plain = plain_of item.value }

-- the values, in order
abbrev pub contents : Data → List Entry
contents d = map entry_of d.items.items
