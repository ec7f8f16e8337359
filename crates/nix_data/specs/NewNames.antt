-- The names of the entries of a set so far.
use Rattle.std.specs.Prelude.{◌≡◌, ℕ, true, false, List, bytes_eq, String, if◌then◌else◌}
use Rattle.std.specs.BTreeSet.{BTreeSet, contains_text}
use Rattle.nix_values.specs.Contents.{Plain, set}

-- the new names are the old ones and one that was not among them; in a list, names are not recorded
abbrev pub IsNewName : {Y : Type 0} → Plain → BTreeSet (String Y) → List ℕ → BTreeSet (String Y) → Type 0
IsNewName set old name new =
    (contains_text old name ≡ false) × ((other : List ℕ) → contains_text new other ≡ (if bytes_eq name other then true else contains_text old other))
IsNewName _ old name new = Unit {0}
