-- The names that entries add to sets which other entries define, as the program stores them.
use Rattle.std.specs.Prelude.{◌≡◌, ℕ, List, [], ◌++◌, map, flat_map, Option, Some, None, Vec}
use Rattle.std.specs.BTreeMap.{get}
use Rattle.std.specs.Ordering.{nat_cmp}
use Rattle.std.specs.declared.alloc.Global.{Global}
use Rattle.rnix_green.specs.Tree.{Located}
use Rattle.nix_attributes.specs.Attributes.{home_by}
use Rattle.nix_attributes.specs.Repeated.{home_in}
use Rattle.nix_attributes.specs.declared.homes.Homes.{Homes}
use Rattle.nix_scopes.specs.declared.added.Added.{Added}
use Rattle.nix_scopes.specs.declared.names.Name.{Name}
use Rattle.nix_scopes.specs.Names.{Named}
use Rattle.nix_scopes.specs.Binders.{named}
use Rattle.nix_scopes.specs.Merged.{Owned, added_if}

-- the names in a list, if there is one
abbrev pub names_in_list : Option (Vec Name Global) → List Named
names_in_list None = []
names_in_list (Some names) = map named names.items

-- the names for the set with a number
abbrev pub names_for : Added → ℕ → List Named
names_for added set = names_in_list (get nat_cmp added.names set)

-- these are the homes of the text
abbrev pub AreHomes : Homes → Located → Type 0
AreHomes homes root = (owner : ℕ) → home_by homes owner ≡ home_in root owner

-- more names with their owners are added to the sets to which they belong
abbrev pub AddsOwned : Located → Added → Added → List Owned → Type 0
AddsOwned root old new owned = (set : ℕ) → names_for new set ≡ names_for old set ++ flat_map (added_if root set) owned
