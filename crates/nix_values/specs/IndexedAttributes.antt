-- An index of attributes by set and name. Attributes without a slot are crowded.
use Rattle.std.specs.Prelude.{◌≡◌, ◌≢◌, ℕ, ◌==◌, ◌&&◌, false, List, Option, Some, None, option_map, if◌then◌else◌}
use Rattle.std.specs.Str.{bytes_eq}
use Rattle.std.specs.BTreeMap.{BTreeMap, values}
use Rattle.nix_values.specs.declared.slots.TheConstants.{FREE}
use Rattle.nix_values.specs.declared.slots.Spot.{Spot}
use Rattle.nix_values.specs.declared.slots.Spot.TheVariants.{Free, Taken, Full}
use Rattle.nix_values.specs.declared.attributes.Probe.{Probe}
use Rattle.nix_values.specs.declared.attributes.Probe.TheVariants as probe
use Rattle.nix_values.specs.declared.attributes.Attributes.{Attributes}
use Rattle.nix_values.specs.AttributeHash.{attribute_hash}
use Rattle.nix_values.specs.HashSlots.{is_free, slot_at, spot_of}
use Rattle.nix_values.specs.OrderedNames.{crowded_in, IsOneOf}
use Rattle.nix_values.specs.Keys.{Keys, is_key}

-- where the attribute with a name in a set is, given where the search for its hash ends
abbrev pub probe_of : Spot → Keys → ℕ → List ℕ → Probe
probe_of (Free at) keys set name = probe.Free at
probe_of (Taken at number) keys set name = if is_key (keys number) set name then probe.Taken at number else probe.Crowded
probe_of Full keys set name = probe.Crowded

-- where the attribute with a name in a set is
abbrev pub probe_in : Attributes → Keys → ℕ → List ℕ → Probe
probe_in attributes keys set name = probe_of (spot_of attributes.slots (attribute_hash set name)) keys set name

-- the value at a place, given the one among the crowded
abbrev pub number_at : Probe → Option ℕ → Option ℕ
number_at (probe.Taken at number) crowded = Some number
number_at (probe.Free at) crowded = None
number_at probe.Crowded crowded = crowded

-- the value that is found as the attribute with a name in a set
abbrev pub found_in : Attributes → Keys → ℕ → List ℕ → Option ℕ
found_in attributes keys set name = number_at (probe_in attributes keys set name) (crowded_in attributes.crowded set name)

-- a value is an attribute with a hash
abbrev pub HasHash : Keys → ℕ → ℕ → Type 0
HasHash keys number hash = option_map (λ key. attribute_hash key.0 key.1) (keys number) ≡ Some hash

-- the slot at which a search ends and the number in it, if the search ends at a taken slot
abbrev pub taken_at : Spot → Option (ℕ × ℕ)
taken_at (Taken at number) = Some (at, number)
taken_at _ = None

-- attributes are where searches look: a search for the hash of a taken slot ends there; numbers in slots are those of attributes with the slot's hash,
-- numbers among the crowded those of attributes with the name; and no search for the hash of a crowded attribute ends at a free slot
pub record IsConsistent (keys : Keys) (attributes : Attributes) : Type 0 where
  pub reached : (i : ℕ) → is_free (slot_at attributes.slots.slots.items i) ≡ false →
      taken_at (spot_of attributes.slots (slot_at attributes.slots.slots.items i).hash) ≡ Some (i, (slot_at attributes.slots.slots.items i).number)
  pub hashed : (hash at number : ℕ) → spot_of attributes.slots hash ≡ Taken at number → HasHash keys number hash
  pub named : (set : ℕ) (name : List ℕ) (number : ℕ) → crowded_in attributes.crowded set name ≡ Some number →
      (keys number ≡ Some (set, name)) × (number ≢ FREE)
  pub crowded : (set : ℕ) (name : List ℕ) (number at : ℕ) → crowded_in attributes.crowded set name ≡ Some number →
      spot_of attributes.slots (attribute_hash set name) ≡ Free at → ⊥

-- no attribute is found
abbrev pub FindsNone : Keys → Attributes → Type 0
FindsNone keys attributes = (set : ℕ) (name : List ℕ) → found_in attributes keys set name ≡ None

-- each attribute that is found in the first index is found in the second one
abbrev pub IsWithin : Keys → Attributes → Attributes → Type 0
IsWithin keys attributes others =
    (set : ℕ) (name : List ℕ) (number : ℕ) → found_in attributes keys set name ≡ Some number → found_in others keys set name ≡ Some number

-- both indexes find the same attributes
pub record IsSame (keys : Keys) (old new : Attributes) : Type 0 where
  pub sound : IsConsistent keys new
  pub finds : (set : ℕ) (name : List ℕ) → found_in new keys set name ≡ found_in old keys set name

-- the new index finds a value as the attribute with a name in a set, and all others as before
pub record IsWith (keys : Keys) (old : Attributes) (set : ℕ) (name : List ℕ) (number : ℕ) (new : Attributes) : Type 0 where
  pub sound : IsConsistent keys new
  pub finds : (s : ℕ) (n : List ℕ) → found_in new keys s n ≡ (if set == s && bytes_eq name n then Some number else found_in old keys s n)

-- the same, for any values that have the same attributes as before and this one
abbrev pub IsInserted : Keys → Attributes → ℕ → List ℕ → ℕ → Attributes → Type 0
IsInserted keys old set name number new = (later : Keys) → ((n : ℕ) (key : ℕ × List ℕ) → keys n ≡ Some key → later n ≡ Some key) →
    later number ≡ Some (set, name) → IsWith later old set name number new

-- if a value is an attribute, no other value is found as this attribute; the new index also finds the value as the attribute that it is
abbrev pub IsNew : Keys → Attributes → ℕ → Type 0
IsNew keys attributes number = (set : ℕ) (name : List ℕ) (other : ℕ) → keys number ≡ Some (set, name) →
    found_in attributes keys set name ≡ Some other → other ≡ number

abbrev pub IsAddedTo : Keys → Attributes → ℕ → Attributes → Type 0
IsAddedTo keys old number new = (set : ℕ) (name : List ℕ) → keys number ≡ Some (set, name) → IsWith keys old set name number new

-- the attributes in the slots of another index are found
pub record AreSlotsAdded (keys : Keys) (others new : Attributes) : Type 0 where
  pub sound : IsConsistent keys new
  pub within : IsWithin keys new others
  pub all : (i set : ℕ) (name : List ℕ) → is_free (slot_at others.slots.slots.items i) ≡ false →
      keys (slot_at others.slots.slots.items i).number ≡ Some (set, name) →
      found_in new keys set name ≡ Some (slot_at others.slots.slots.items i).number

-- if a value is found in another index, it is found in the new one
pub record IsFoundAdded (keys : Keys) (others : Attributes) (number : ℕ) (old new : Attributes) : Type 0 where
  pub sound : IsConsistent keys new
  pub within : IsWithin keys new others
  pub kept : IsWithin keys old new
  pub all : (set : ℕ) (name : List ℕ) → found_in others keys set name ≡ Some number → found_in new keys set name ≡ Some number

-- if one of these values is found in another index, it is found in the new one
pub record AreSetsAdded (keys : Keys) (others : Attributes) (sets : BTreeMap ℕ ℕ) (old new : Attributes) : Type 0 where
  pub sound : IsConsistent keys new
  pub within : IsWithin keys new others
  pub kept : IsWithin keys old new
  pub all : (set : ℕ) (name : List ℕ) (number : ℕ) → IsOneOf (values sets) number → found_in others keys set name ≡ Some number →
      found_in new keys set name ≡ Some number

-- the crowded attributes of another index are found
pub record AreCrowdedAdded (keys : Keys) (others old new : Attributes) : Type 0 where
  pub sound : IsConsistent keys new
  pub within : IsWithin keys new others
  pub kept : IsWithin keys old new
  pub all : (set : ℕ) (name : List ℕ) (number : ℕ) → crowded_in others.crowded set name ≡ Some number → found_in others keys set name ≡ Some number →
      found_in new keys set name ≡ Some number
