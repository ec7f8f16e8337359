-- Where the reader adds values.
use Rattle.std.specs.Prelude.{ℕ, List, string_bytes}
use Rattle.nix_values.specs.Built.{Built}
use Rattle.nix_values.specs.Building.{values_in}
use Rattle.nix_data.specs.declared.values.Name.{Name}
use Rattle.nix_data.specs.declared.values.Values.{Values}
use Rattle.nix_data.specs.declared.values.Target.{Target}
use Rattle.nix_data.specs.declared.values.Target.TheVariants as target
use Rattle.nix_data.specs.Added.{Place, outermost, inside, attribute, nowhere}

-- the values that have been read
abbrev pub values_read : Values → List Built
values_read values = values_in values.builder

-- the bytes of a name
abbrev pub name_bytes : Name → List ℕ
name_bytes name = string_bytes name.text

-- the place at which the reader adds its next value
abbrev pub place_of : Target → Place
place_of target.Outermost = outermost
place_of (target.Inside frame) = inside frame.node frame.first
place_of (target.Attribute entry) = attribute entry.set (string_bytes entry.name.text)
place_of target.Nowhere = nowhere
