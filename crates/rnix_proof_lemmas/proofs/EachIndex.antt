-- What is shown for each index of the table of rows, and past its end, holds of every index.
use Rattle.std.proofs.Common.{◌≡◌, ℕ, zero, suc, take, drop, List, [], ◌∷◌, None, refl}
use Rattle.{std.specs.List.slice_get, rnix_grammar.specs.{declared.slot_table.{Slot.Slot, TheConstants.SLOTS}, Slots.slot_at}}

-- a property holds of each index of some slots
abbrev pub EachSlot : (ℕ → Type 0) → List Slot → Type 0
EachSlot P [] = Unit {0}
EachSlot P (s ∷ ss) = P zero × EachSlot (λ i. P (suc i)) ss

-- a property of the indices from a number on
abbrev pub from_index : ℕ → (ℕ → Type 0) → ℕ → Type 0
from_index zero P = P
from_index (suc n) P = from_index n (λ i. P (suc i))

-- a property of the first slots and of those after them holds of all
pub each_split : (P : ℕ → Type 0) (n : ℕ) (ss : List Slot) → EachSlot P (take n ss) → EachSlot (from_index n P) (drop n ss) → EachSlot P ss
each_split P zero ss h g = g
each_split P (suc n) [] h g = tt
each_split P (suc n) (s ∷ ss) h g = (h.0, each_split (λ i. P (suc i)) n ss h.1 g)

each_slot : (P : ℕ → Type 0) (ss : List Slot) (i : ℕ) → EachSlot P ss → (slice_get ss i ≡ None → drop i ss ≡ [] → P i) → P i
each_slot P [] zero h past = past refl refl
each_slot P [] (suc i) h past = past refl refl
each_slot P (s ∷ ss) zero h past = h.0
each_slot P (s ∷ ss) (suc i) h past = each_slot (λ i. P (suc i)) ss i h.1 past

-- a property of each index of the table, and of those past its end, holds of every index
pub each_index : (P : ℕ → Type 0) → EachSlot P SLOTS → ((i : ℕ) → slot_at i ≡ None → drop i SLOTS ≡ [] → P i) → (i : ℕ) → P i
each_index P h past i = each_slot P SLOTS i h (past i)
