-- An index of attributes after a value is put into a slot or among the crowded.
use Rattle.std.proofs.Common.{◌≡◌, ◌≢◌, ◌∙◌, ℕ, true, false, cond, List, Some, None, ⊎_elim, sym, refl, ap, ap₂, ◌<◌, length}
use Rattle.std.proofs.lemmas.Bool.{cases_Bool, cases_eq, cond-true, cond-false, ne_eqb}
use Rattle.std.proofs.lemmas.Option.{same_Some}
use Rattle.nix_values.specs.declared.slots.TheConstants.{FREE}
use Rattle.nix_values.specs.declared.slots.Slot.{Slot}
use Rattle.nix_values.specs.declared.slots.Spot.TheVariants.{Free, Taken}
use Rattle.nix_values.specs.declared.slots.Slots.{Slots}
use Rattle.nix_values.specs.declared.attributes.Attributes.{Attributes}
use Rattle.nix_values.specs.AttributeHash.{attribute_hash}
use Rattle.nix_values.specs.Keys.{Keys, is_key}
use Rattle.nix_values.specs.HashSlots.{is_free, slot_at, spot_of, first_of, IsPut}
use Rattle.nix_values.specs.OrderedNames.{crowded_in, IsWithCrowded, IsSameCrowded}
use Rattle.nix_values.specs.IndexedAttributes.{found_in, HasHash, taken_at, IsConsistent, IsSame, IsWith}
use Rattle.nix_values.proofs.AttributeLemmas.{reached_at, has_hash, same_key, same_is, other_key, spot_at, crowded_at, spot_cases, found_free, found_full, found_taken, found_other, crowded_none, found_same, ends_taken, free_not, taken_probe, choose}
use Rattle.nix_values.proofs.SlotLemmas.{end_of, Holds, taken_in, free_in, same_slot, new_slot, put_same_in, put_free_in, put_again_in, end_inside, spot_put}

-- ---- a value in a slot that was free

module _ (keys : Keys) (a b : Attributes) (s : ℕ) (n : List ℕ) (m p : ℕ) (sound : IsConsistent keys a)
    (ended : spot_at a s n ≡ Free p) (put : IsPut a.slots p (attribute_hash s n) m b.slots) (rest : b.crowded ≡ a.crowded)
    (number : m ≢ FREE) (key : keys m ≡ Some (s, n)) where
  abbrev new_free : Slot
  new_free = record { hash = attribute_hash s n; number = m }

  free_taken : is_free new_free ≡ false
  free_taken = ne_eqb m FREE number

  free_was : is_free (slot_at a.slots.slots.items p) ≡ true
  free_was = free_in a.slots.slots.items _ (attribute_hash s n) p ended

  free_here : spot_of b.slots (attribute_hash s n) ≡ Taken p m
  free_here =
      spot_put a.slots b.slots p (attribute_hash s n) m (attribute_hash s n) put
      ∙ put_same_in a.slots.slots.items (first_of a.slots (attribute_hash s n)) (attribute_hash s n) p new_free (ap end_of ended) free_taken refl

  free_stay : (g : ℕ) → ((i : ℕ) → spot_of a.slots g ≡ Free i → ⊥) → spot_of b.slots g ≡ spot_of a.slots g
  free_stay g none =
      spot_put a.slots b.slots p (attribute_hash s n) m g put
      ∙ put_free_in a.slots.slots.items (first_of a.slots g) g p new_free free_was none

  free_slot_same : (i : ℕ) → (i ≡ p → ⊥) → slot_at b.slots.slots.items i ≡ slot_at a.slots.slots.items i
  free_slot_same i other = ap (λ x. slot_at x i) put.slots ∙ same_slot a.slots.slots.items p i new_free other

  free_slot_new : slot_at b.slots.slots.items p ≡ new_free
  free_slot_new = ap (λ x. slot_at x p) put.slots ∙ new_slot a.slots.slots.items p new_free (end_inside a.slots (attribute_hash s n) p (ap end_of ended))

  free_reached : (i : ℕ) → is_free (slot_at b.slots.slots.items i) ≡ false →
      spot_of b.slots (slot_at b.slots.slots.items i).hash ≡ Taken i (slot_at b.slots.slots.items i).number
  free_reached i e =
      ⊎_elim
      (λ here.
      let slot : slot_at b.slots.slots.items i ≡ new_free = ap (slot_at b.slots.slots.items) here ∙ free_slot_new in
      ap (λ x. spot_of b.slots x.hash) slot ∙ free_here
      ∙ ap (λ x. Taken x m) (sym here) ∙ ap (λ x. Taken i x.number) (sym slot))
      (λ other.
      let slot = free_slot_same i other in
      let was = reached_at keys a i sound (ap is_free (sym slot) ∙ e) in
      ap (λ x. spot_of b.slots x.hash) slot
      ∙ free_stay (slot_at a.slots.slots.items i).hash (λ j wrong. absurd (free_not j i (slot_at a.slots.slots.items i).number (sym wrong ∙ was)))
      ∙ was ∙ ap (λ x. Taken i x.number) (sym slot))
      (cases_eq i p)

  -- a hash whose search ended at a free slot is not in the table, except that of the new attribute
  free_apart : (g i x j : ℕ) → spot_of a.slots g ≡ Free j → (g ≡ attribute_hash s n → ⊥) → spot_of b.slots g ≡ Taken i x → ⊥
  free_apart g i x j was other is =
      let holds : Holds b.slots.slots.items g i x = taken_in b.slots.slots.items _ g i x is in
      ⊎_elim
      (λ here.
      let slot : slot_at b.slots.slots.items i ≡ new_free = ap (slot_at b.slots.slots.items) here ∙ free_slot_new in
      other (sym holds.1 ∙ ap (λ y. y.hash) slot))
      (λ away.
      let slot = free_slot_same i away in
      let reached = reached_at keys a i sound (ap is_free (sym slot) ∙ holds.0) in
      let hash : (slot_at a.slots.slots.items i).hash ≡ g = ap (λ y. y.hash) (sym slot) ∙ holds.1 in
      let wrong : Free j ≡ Taken i (slot_at a.slots.slots.items i).number = sym was ∙ ap (spot_of a.slots) (sym hash) ∙ reached in
      absurd (cc))
      (cases_eq i p)

  free_hashed : (g i x : ℕ) → spot_of b.slots g ≡ Taken i x → HasHash keys x g
  free_hashed g i x e =
      ⊎_elim
      (λ here.
      let is : Taken i x ≡ Taken p m = sym e ∙ ap (spot_of b.slots) here ∙ free_here in
      let same : x ≡ m = cc in
      has_hash keys x g s n (ap keys same ∙ key) (sym here))
      (λ other. ⊎_elim
      (λ f. absurd (free_apart g i x f.0 f.1 other e))
      (λ t. sound.hashed g i x (sym (free_stay g (ends_taken (spot_of a.slots g) t)) ∙ e))
      (spot_cases (spot_of a.slots g)))
      (cases_eq g (attribute_hash s n))

  -- if the search for another attribute ended at a free slot, the attribute is not found
  free_none : (t : ℕ) (k : List ℕ) (i : ℕ) → same_key s n t k ≡ false → spot_at a t k ≡ Free i → found_in b keys t k ≡ None
  free_none t k i apart was =
      let none : crowded_at b t k ≡ None = ap (λ o. crowded_in o t k) rest ∙ crowded_none keys a t k i sound was in
      ⊎_elim
      (λ f. found_free keys b t k f.0 f.1)
      (λ others. ⊎_elim
      (λ x. found_other keys b t k x.0 x.1 x.2
      (⊎_elim
      (λ here.
      let is : Taken x.0 x.1 ≡ Taken p m = sym x.2 ∙ ap (spot_of b.slots) here ∙ free_here in
      let same : x.1 ≡ m = cc in
      other_key (keys x.1) s t n k (ap keys same ∙ key) apart)
      (λ away. absurd (free_apart (attribute_hash t k) x.0 x.1 i was away x.2))
      (cases_eq (attribute_hash t k) (attribute_hash s n)))
      ∙ none)
      (λ f. found_full keys b t k f ∙ none)
      others)
      (spot_cases (spot_at b t k))

  free_finds : (t : ℕ) (k : List ℕ) → found_in b keys t k ≡ cond (same_key s n t k) (Some m) (found_in a keys t k)
  free_finds t k =
      choose (same_key s n t k) m (found_in a keys t k) (found_in b keys t k)
      (λ e.
      let is = same_is s t n k e in
      let spot : spot_at b t k ≡ Taken p m = ap₂ (λ x y. spot_at b x y) (sym is.0) (sym is.1) ∙ free_here in
      found_taken keys b t k p m spot (ap (λ o. is_key o t k) key ∙ e))
      (λ apart. ⊎_elim
      (λ f. free_none t k f.0 apart f.1 ∙ sym (found_free keys a t k f.0 f.1))
      (λ others. found_same keys a b t k (free_stay (attribute_hash t k) (ends_taken (spot_at a t k) others)) (ap (λ o. crowded_in o t k) rest))
      (spot_cases (spot_at a t k)))

  free_crowded : (t : ℕ) (k : List ℕ) (x i : ℕ) → crowded_at b t k ≡ Some x → spot_at b t k ≡ Free i → ⊥
  free_crowded t k x i e f =
      let was : crowded_at a t k ≡ Some x = sym (ap (λ o. crowded_in o t k) rest) ∙ e in
      sound.crowded t k x i was (sym (free_stay (attribute_hash t k) (λ j wrong. sound.crowded t k x j was wrong)) ∙ f)

  pub with_free : IsWith keys a s n m b
  with_free = record {
    sound = record {
      reached = λ i e. ap taken_at (free_reached i e);
      hashed = free_hashed;
      named = λ t k x e. sound.named t k x (sym (ap (λ o. crowded_in o t k) rest) ∙ e);
      crowded = free_crowded;
    };
    finds = free_finds;
  }

-- ---- a value in the slot of another value for the same attribute

module _ (keys : Keys) (a b : Attributes) (s : ℕ) (n : List ℕ) (m p x : ℕ) (sound : IsConsistent keys a)
    (ended : spot_at a s n ≡ Taken p x) (before : keys x ≡ Some (s, n)) (put : IsPut a.slots p (attribute_hash s n) m b.slots)
    (rest : b.crowded ≡ a.crowded) (number : m ≢ FREE) (key : keys m ≡ Some (s, n)) where
  abbrev new_again : Slot
  new_again = record { hash = attribute_hash s n; number = m }

  again_taken : is_free new_again ≡ false
  again_taken = ne_eqb m FREE number

  again_held : Holds a.slots.slots.items (attribute_hash s n) p x
  again_held = taken_in a.slots.slots.items _ (attribute_hash s n) p x ended

  again_here : spot_of b.slots (attribute_hash s n) ≡ Taken p m
  again_here =
      spot_put a.slots b.slots p (attribute_hash s n) m (attribute_hash s n) put
      ∙ put_same_in a.slots.slots.items (first_of a.slots (attribute_hash s n)) (attribute_hash s n) p new_again (ap end_of ended) again_taken refl

  again_inside : p < length a.slots.slots.items
  again_inside = end_inside a.slots (attribute_hash s n) p (ap end_of ended)

  again_other : (g : ℕ) → (attribute_hash s n ≡ g → ⊥) → spot_of b.slots g ≡ spot_of a.slots g
  again_other g other =
      spot_put a.slots b.slots p (attribute_hash s n) m g put
      ∙ put_again_in a.slots.slots.items (first_of a.slots g) g (attribute_hash s n) p new_again again_inside again_held.0 again_held.1 again_taken refl other

  again_reached : (i : ℕ) → is_free (slot_at b.slots.slots.items i) ≡ false →
      spot_of b.slots (slot_at b.slots.slots.items i).hash ≡ Taken i (slot_at b.slots.slots.items i).number
  again_reached i e =
      ⊎_elim
      (λ here.
      let slot : slot_at b.slots.slots.items i ≡ new_again =
      ap (slot_at b.slots.slots.items) here ∙ ap (λ y. slot_at y p) put.slots ∙ new_slot a.slots.slots.items p new_again again_inside in
      ap (λ y. spot_of b.slots y.hash) slot ∙ again_here
      ∙ ap (λ y. Taken y m) (sym here) ∙ ap (λ y. Taken i y.number) (sym slot))
      (λ away.
      let slot : slot_at b.slots.slots.items i ≡ slot_at a.slots.slots.items i =
      ap (λ y. slot_at y i) put.slots ∙ same_slot a.slots.slots.items p i new_again away in
      let was = reached_at keys a i sound (ap is_free (sym slot) ∙ e) in
      ap (λ y. spot_of b.slots y.hash) slot
      ∙ again_other (slot_at a.slots.slots.items i).hash
      (λ same. away (taken_probe i p (slot_at a.slots.slots.items i).number x (sym was ∙ ap (spot_of a.slots) (sym same) ∙ ended)))
      ∙ was ∙ ap (λ y. Taken i y.number) (sym slot))
      (cases_eq i p)

  again_hashed : (g i y : ℕ) → spot_of b.slots g ≡ Taken i y → HasHash keys y g
  again_hashed g i y e =
      ⊎_elim
      (λ here.
      let is : Taken i y ≡ Taken p m = sym e ∙ ap (spot_of b.slots) (sym here) ∙ again_here in
      let same : y ≡ m = cc in
      has_hash keys y g s n (ap keys same ∙ key) here)
      (λ other. sound.hashed g i y (sym (again_other g other) ∙ e))
      (cases_eq (attribute_hash s n) g)

  again_crowded : (t : ℕ) (k : List ℕ) (y i : ℕ) → crowded_at b t k ≡ Some y → spot_at b t k ≡ Free i → ⊥
  again_crowded t k y i e f =
      let was : crowded_at a t k ≡ Some y = sym (ap (λ o. crowded_in o t k) rest) ∙ e in
      ⊎_elim
      (λ here. let wrong : Taken p m ≡ Free i = sym (ap (spot_of b.slots) (sym here) ∙ again_here) ∙ f in absurd (cc))
      (λ other. sound.crowded t k y i was (sym (again_other (attribute_hash t k) other) ∙ f))
      (cases_eq (attribute_hash s n) (attribute_hash t k))

  again_finds : (t : ℕ) (k : List ℕ) → found_in b keys t k ≡ cond (same_key s n t k) (Some m) (found_in a keys t k)
  again_finds t k =
      let crowded : crowded_at b t k ≡ crowded_at a t k = ap (λ o. crowded_in o t k) rest in
      choose (same_key s n t k) m (found_in a keys t k) (found_in b keys t k)
      (λ e.
      let is = same_is s t n k e in
      let spot : spot_at b t k ≡ Taken p m = ap₂ (λ x y. spot_at b x y) (sym is.0) (sym is.1) ∙ again_here in
      found_taken keys b t k p m spot (ap (λ o. is_key o t k) key ∙ e))
      (λ apart. ⊎_elim
      (λ here.
      let old : spot_at a t k ≡ Taken p x = ap (spot_of a.slots) (sym here) ∙ ended in
      let new : spot_at b t k ≡ Taken p m = ap (spot_of b.slots) (sym here) ∙ again_here in
      found_other keys b t k p m new (other_key (keys m) s t n k key apart) ∙ crowded
      ∙ sym (found_other keys a t k p x old (other_key (keys x) s t n k before apart)))
      (λ other. found_same keys a b t k (again_other (attribute_hash t k) other) crowded)
      (cases_eq (attribute_hash s n) (attribute_hash t k)))

  pub with_taken : IsWith keys a s n m b
  with_taken = record {
    sound = record {
      reached = λ i e. ap taken_at (again_reached i e);
      hashed = again_hashed;
      named = λ t k y e. sound.named t k y (sym (ap (λ o. crowded_in o t k) rest) ∙ e);
      crowded = again_crowded;
    };
    finds = again_finds;
  }

-- ---- a value among the crowded

-- an index with the slots of a consistent one is consistent, if its crowded attributes have the right set and name, and no search for them ends at a free slot
sound_slots : (keys : Keys) (a b : Attributes) → b.slots ≡ a.slots → IsConsistent keys a →
    ((t : ℕ) (k : List ℕ) (y : ℕ) → crowded_at b t k ≡ Some y → (keys y ≡ Some (t, k)) × (y ≢ FREE)) →
    ((t : ℕ) (k : List ℕ) (y i : ℕ) → crowded_at b t k ≡ Some y → spot_at a t k ≡ Free i → ⊥) → IsConsistent keys b
sound_slots keys a b same sound named crowded = record {
  reached = λ i e.
      let slot : slot_at b.slots.slots.items i ≡ slot_at a.slots.slots.items i = ap (λ x. slot_at x.slots.items i) same in
      ap taken_at (ap₂ (λ (x : Slots) (y : Slot). spot_of x y.hash) same slot ∙ reached_at keys a i sound (ap is_free (sym slot) ∙ e)
      ∙ ap (λ x. Taken i x.number) (sym slot));
  hashed = λ g i y e. sound.hashed g i y (sym (ap (λ x. spot_of x g) same) ∙ e);
  named = named;
  crowded = λ t k y i e f. crowded t k y i e (sym (ap (λ x. spot_of x (attribute_hash t k)) same) ∙ f);
}

module _ (keys : Keys) (a b : Attributes) (s : ℕ) (n : List ℕ) (m : ℕ) (sound : IsConsistent keys a) (slots : b.slots ≡ a.slots)
    (more : IsWithCrowded a.crowded s n m b.crowded) (number : m ≢ FREE) (key : keys m ≡ Some (s, n))
    (none : (i : ℕ) → spot_at a s n ≡ Free i → ⊥)
    (only : (i x : ℕ) → spot_at a s n ≡ Taken i x → is_key (keys x) s n ≡ true → x ≡ m) where
  more_same : (t : ℕ) (k : List ℕ) → same_key s n t k ≡ true → crowded_at b t k ≡ Some m
  more_same t k e = more t k ∙ cond-true (same_key s n t k) (Some m) (crowded_at a t k) e

  more_other : (t : ℕ) (k : List ℕ) → same_key s n t k ≡ false → crowded_at b t k ≡ crowded_at a t k
  more_other t k e = more t k ∙ cond-false (same_key s n t k) (Some m) (crowded_at a t k) e

  more_named : (t : ℕ) (k : List ℕ) (y : ℕ) → crowded_at b t k ≡ Some y → (keys y ≡ Some (t, k)) × (y ≢ FREE)
  more_named t k y e =
      ⊎_elim
      (λ same.
      let is = same_is s t n k same in
      let y_is : m ≡ y = same_Some m y (sym (more_same t k same) ∙ e) in
      let set = is.0 in
      let name = is.1 in
      (sym (ap keys y_is) ∙ key ∙ ap₂ (λ (x : ℕ) (z : List ℕ). Some (x, z)) set name, λ free. number (y_is ∙ free)))
      (λ other. sound.named t k y (sym (more_other t k other) ∙ e))
      (cases_Bool (same_key s n t k))

  more_crowded : (t : ℕ) (k : List ℕ) (y i : ℕ) → crowded_at b t k ≡ Some y → spot_at a t k ≡ Free i → ⊥
  more_crowded t k y i e f =
      ⊎_elim
      (λ same.
      let is = same_is s t n k same in
      none i (ap₂ (λ x z. spot_at a x z) is.0 is.1 ∙ f))
      (λ other. sound.crowded t k y i (sym (more_other t k other) ∙ e) f)
      (cases_Bool (same_key s n t k))

  more_found : (t : ℕ) (k : List ℕ) → same_key s n t k ≡ true → found_in b keys t k ≡ Some m
  more_found t k same =
      let is = same_is s t n k same in
      let spot : spot_at b t k ≡ spot_at a s n =
      ap (λ x. spot_of x (attribute_hash t k)) slots ∙ ap₂ (λ x z. spot_at a x z) (sym is.0) (sym is.1) in
      let right : is_key (keys m) t k ≡ true = ap (λ o. is_key o t k) key ∙ same in
      ⊎_elim
      (λ f. absurd (none f.0 f.1))
      (λ rest. ⊎_elim
      (λ x. ⊎_elim
      (λ is_it.
      let there : is_key (keys x.1) s n ≡ true = ap₂ (λ y z. is_key (keys x.1) y z) is.0 is.1 ∙ is_it in
      found_taken keys b t k x.0 x.1 (spot ∙ x.2) is_it ∙ ap Some (only x.0 x.1 x.2 there))
      (λ not_it. found_other keys b t k x.0 x.1 (spot ∙ x.2) not_it ∙ more_same t k same)
      (cases_Bool (is_key (keys x.1) t k)))
      (λ f. found_full keys b t k (spot ∙ f) ∙ more_same t k same)
      rest)
      (spot_cases (spot_at a s n))

  pub with_crowded : IsWith keys a s n m b
  with_crowded = record {
    sound = sound_slots keys a b slots sound more_named more_crowded;
    finds = λ t k. choose (same_key s n t k) m (found_in a keys t k) (found_in b keys t k)
        (λ same. more_found t k same)
        (λ other. found_same keys a b t k (ap (λ x. spot_of x (attribute_hash t k)) slots) (more_other t k other));
  }

-- if nothing changed among the crowded, the index finds the same attributes
pub same_crowded : (keys : Keys) (a b : Attributes) → IsConsistent keys a → b.slots ≡ a.slots → IsSameCrowded a.crowded b.crowded → IsSame keys a b
same_crowded keys a b sound slots same = record {
  sound = sound_slots keys a b slots sound
      (λ t k y e. sound.named t k y (sym (same t k) ∙ e))
      (λ t k y i e f. sound.crowded t k y i (sym (same t k) ∙ e) f);
  finds = λ t k. found_same keys a b t k (ap (λ x. spot_of x (attribute_hash t k)) slots) (same t k);
}
