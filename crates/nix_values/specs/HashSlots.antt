-- The hash table of attributes. A hash has several slots, from its first one on; a search goes through them until it reaches a free one.
use Rattle.std.specs.Prelude.{◌≡◌, ℕ, zero, suc, ◌+◌, ◌==◌, nat_le, Bool, true, List, length, Option, Some, None, if◌then◌else◌, bit_and}
use Rattle.std.proofs.Math.ListN.{get_or, set}
use Rattle.nix_values.specs.declared.slots.TheConstants.{WINDOW, FREE}
use Rattle.nix_values.specs.declared.slots.Slot.{Slot}
use Rattle.nix_values.specs.declared.slots.Spot.{Spot}
use Rattle.nix_values.specs.declared.slots.Spot.TheVariants.{Free, Taken, Full}
use Rattle.nix_values.specs.declared.slots.Slots.{Slots}

abbrev pub is_free : Slot → Bool
is_free slot = slot.number == FREE

-- the number in a slot, and its hash
abbrev pub slot_entry : Slot → Option (ℕ × ℕ)
slot_entry slot = if is_free slot then None else Some (slot.hash, slot.number)

abbrev pub free_slot : Slot
free_slot = record { hash = 0; number = FREE }

-- the slot at an index of a table, or a free one
abbrev pub slot_at : List Slot → ℕ → Slot
slot_at slots i = get_or slots i free_slot

-- where a search for a hash ends that goes through a number of slots, starting at an index
unfoldable pub spot_from : ℕ → ℕ → ℕ → List Slot → Spot
spot_from zero at hash slots = Full
spot_from (suc count) at hash slots =
    if is_free (slot_at slots at) then Free at
    else (if (slot_at slots at).hash == hash then Taken at (slot_at slots at).number
    else spot_from count (at + 1) hash slots)

abbrev pub first_of : Slots → ℕ → ℕ
first_of table hash = bit_and hash table.mask

-- where a search for a hash ends, given its first slot
abbrev pub spot_in : List Slot → ℕ → ℕ → Spot
spot_in slots first hash = if nat_le (first + WINDOW) (length slots) then spot_from WINDOW first hash slots else Full

-- where a search for a hash ends
abbrev pub spot_of : Slots → ℕ → Spot
spot_of table hash = spot_in table.slots.items (first_of table hash) hash

-- the table contains no number
abbrev pub HasNone : Slots → Type 0
HasNone table = (i : ℕ) → is_free (slot_at table.slots.items i) ≡ true

-- a number is put into a slot
pub record IsPut (old : Slots) (at hash number : ℕ) (new : Slots) : Type 0 where
  pub slots : new.slots.items ≡ set old.slots.items at (record { hash = hash; number = number })
  pub mask : new.mask ≡ old.mask

-- a number is put into the slot at which the search for its hash ends
pub record IsStored (old : Slots) (hash number : ℕ) (new : Slots) : Type 0 where
  pub at : ℕ
  pub spot : spot_of old hash ≡ Free at
  pub put : IsPut old at hash number new

-- the search for a hash ends at no free slot, and the table is unchanged
pub record IsNotStored (old : Slots) (hash : ℕ) (new : Slots) : Type 0 where
  pub spot : (at : ℕ) → spot_of old hash ≡ Free at → ⊥
  pub same : new ≡ old
