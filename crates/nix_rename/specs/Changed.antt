-- A text with another name in some ranges.
use Rattle.std.specs.Prelude.{◌≡◌, ◌⊎◌, ℕ, ◌<◌, ◌≤◌, Bool, true, false, List, length, map, Some, slice_get, slice_range}
use Rattle.std.specs.List.{All, Contains}
use Rattle.std.specs.List.Sorted.{IsPermutation}
use Rattle.rnix_green.specs.Range.{Extent}
use Rattle.rnix_text.specs.Changes.{Change, Draft, AreAscending, IsAdded, IsBetween, HasOverlap, changed_from, replacing}

-- the text contains a name in a range
abbrev pub ContainsAt : List ℕ → List ℕ → Extent → Type 0
ContainsAt text name occurrence = (occurrence.end ≤ length text) × (slice_range text occurrence.start occurrence.end ≡ name)

-- the change that replaces a range by the new name
abbrev pub change_at : List ℕ → Extent → Change
change_at new occurrence = replacing occurrence.start occurrence.end new

-- the text with the new name in place of the old one in exactly these ranges, and everything else unchanged
pub record IsChanged (text : List ℕ) (occurrences : List Extent) (old new made : List ℕ) : Type 0 where
  pub changes : List Change
  pub exactly : IsPermutation (map (change_at new) occurrences) changes
  pub ascending : AreAscending 0 changes
  pub each_old : All (ContainsAt text old) occurrences
  pub made_is : made ≡ changed_from 0 changes text

-- the text does not contain the name in the range, or the range does not begin and end between characters
abbrev pub LacksAt : List ℕ → List ℕ → Extent → Type 0
LacksAt text name occurrence = ¬ (IsBetween text occurrence.start occurrence.end × ContainsAt text name occurrence)

-- one of these ranges does not contain the name, or does not begin and end between characters of the text
pub record IsMissing (text : List ℕ) (occurrences : List Extent) (name : List ℕ) : Type 0 where
  pub occurrence : Extent
  pub is_one : Contains occurrences occurrence
  pub lacking : LacksAt text name occurrence

-- two of these ranges overlap
pub record DoOverlap (occurrences : List Extent) : Type 0 where
  pub first : ℕ
  pub second : ℕ
  pub occurrence : Extent
  pub other : Extent
  pub order : first < second
  pub first_is : slice_get occurrences first ≡ Some occurrence
  pub second_is : slice_get occurrences second ≡ Some other
  pub overlap : (occurrence.start < other.end) × (other.start < occurrence.end)

-- the text does not contain the old name in each of these ranges, or two of them overlap
abbrev pub IsUnchangeable : List ℕ → List Extent → List ℕ → Type 0
IsUnchangeable text occurrences old = IsMissing text occurrences old ⊎ DoOverlap occurrences

-- the change of a range is added to a draft, or the text does not contain the old name there, or the range overlaps one that is changed
abbrev pub IsOccurrenceTested : Extent → List ℕ → List ℕ → Draft → Draft → Bool → Type 0
IsOccurrenceTested occurrence old new before after true = ContainsAt before.text old occurrence
    × IsAdded (change_at new occurrence) before.changes after.changes
IsOccurrenceTested occurrence old new before after false = LacksAt before.text old occurrence ⊎ HasOverlap occurrence.start occurrence.end before.changes
