-- The position of the reader of JSON, and which attributes its values are.
use Rattle.std.specs.Prelude.{◌≡◌, ℕ, ◌+◌, ◌-◌, List, length, map, slice_get, Option, Some, None, option_map, if◌then◌else◌}
use Rattle.nix_values.specs.declared.json_found.Found.{Found}
use Rattle.nix_values.specs.declared.json_reader.Frame.{Frame}
use Rattle.nix_values.specs.declared.attributes.Attributes.{Attributes}
use Rattle.nix_values.specs.Contents.{Entry, entry_of}
use Rattle.nix_values.specs.FoundKeys.{found_keys}
use Rattle.nix_values.specs.IndexedAttributes.{found_in, IsConsistent}
use Rattle.nix_values.specs.RepeatedNames.{last_outside, is_set_entry, entry_keys}

abbrev pub entries_of : Found → List Entry
entries_of found = map entry_of found.items.items

-- the innermost list or set
abbrev pub last_frame : List Frame → Option Frame
last_frame frames = slice_get frames (length frames - 1)

-- the set to which a value is added
abbrev pub set_of : Option Frame → Option ℕ
set_of None = None
set_of (Some frame) = if frame.is_set then Some frame.node else None

-- the attribute with a name in a set, if there is a set
abbrev pub in_set : Option ℕ → List ℕ → Option (ℕ × List ℕ)
in_set set name = option_map (λ s. (s, name)) set

-- the attributes of the values are found, and the open lists and sets are the last values outside those that come next
pub record IsPlaced (found : Found) (attributes : Attributes) (frames : List Frame) : Type 0 where
  pub sound : IsConsistent (found_keys found) attributes
  pub count : length found.locations.items ≡ length found.items.items
  pub keys : (number : ℕ) → found_keys found number ≡ entry_keys (entries_of found) number
  pub complete : (number set : ℕ) (name : List ℕ) → found_keys found number ≡ Some (set, name) →
      found_in attributes (found_keys found) set name ≡ None → ⊥
  pub outside : (depth : ℕ) (frame : Frame) → slice_get frames depth ≡ Some frame →
      last_outside (entries_of found) (length (entries_of found)) (depth + 1) ≡ Some frame.node
  pub kinds : (depth : ℕ) (frame : Frame) → slice_get frames depth ≡ Some frame → is_set_entry (slice_get (entries_of found) frame.node) ≡ frame.is_set
