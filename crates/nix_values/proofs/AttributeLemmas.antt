-- Where the attributes of an index are found.
use Rattle.std.proofs.Common.{◌≡◌, ◌≢◌, ◌∙◌, ℕ, ◌==◌, ◌&&◌, Bool, true, false, cond, List, Option, Some, None, ◌⊎◌, inl, inr, ⊎_elim, sym, refl, ap, ap₂, option_map}
use Rattle.std.specs.Str.{bytes_eq}
use Rattle.std.proofs.Math.ListN.{set}
use Rattle.std.proofs.lemmas.Bool.{cases_Bool, cond-true, cond-false, and_parts, and_from, eqb-true, eq-eqb, both_ways}
use Rattle.std.proofs.lemmas.Option.{same_Some, some_pair_parts}
use Rattle.std.proofs.lemmas.Slice.Eq.{bytes_eq-Decides}
use Rattle.nix_values.specs.declared.slots.TheConstants.{FREE}
use Rattle.nix_values.specs.declared.slots.Slot.{Slot}
use Rattle.nix_values.specs.declared.slots.Spot.{Spot}
use Rattle.nix_values.specs.declared.slots.Spot.TheVariants.{Free, Taken, Full}
use Rattle.nix_values.specs.declared.attributes.Attributes.{Attributes}
use Rattle.nix_values.specs.AttributeHash.{attribute_hash}
use Rattle.nix_values.specs.Keys.{Keys, is_key}
use Rattle.nix_values.specs.HashSlots.{is_free, slot_at, spot_of}
use Rattle.nix_values.specs.OrderedNames.{crowded_in}
use Rattle.nix_values.specs.IndexedAttributes.{probe_of, number_at, found_in, HasHash, taken_at, IsConsistent}
use Rattle.nix_values.proofs.SlotLemmas.{Holds, taken_in}

-- ---- names of sets

pub key_is : (o : Option (ℕ × List ℕ)) (s : ℕ) (n : List ℕ) → is_key o s n ≡ true → o ≡ Some (s, n)
key_is None s n e = absurd (cc)
key_is (Some k) s n e =
    let parts : ((k.0 == s) ≡ true) × (bytes_eq k.1 n ≡ true) = and_parts (k.0 == s) (bytes_eq k.1 n) e in
    let set : k.0 ≡ s = eqb-true k.0 s parts.0 in
    let name : k.1 ≡ n = (bytes_eq-Decides k.1 n).0 parts.1 in
    ap₂ (λ x y. Some (x, y)) set name

pub key_yes : (o : Option (ℕ × List ℕ)) (s : ℕ) (n : List ℕ) → o ≡ Some (s, n) → is_key o s n ≡ true
key_yes o s n e =
    ap (λ k. is_key k s n) e ∙ and_from (s == s) (bytes_eq n n) (eq-eqb s s refl) ((bytes_eq-Decides n n).1 refl)

-- whether both attributes have the same set and name
abbrev pub same_key : ℕ → List ℕ → ℕ → List ℕ → Bool
same_key set name s n = set == s && bytes_eq name n

pub same_is : (set s : ℕ) (name n : List ℕ) → same_key set name s n ≡ true → (set ≡ s) × (name ≡ n)
same_is set s name n e =
    let parts : ((set == s) ≡ true) × (bytes_eq name n ≡ true) = and_parts (set == s) (bytes_eq name n) e in
    (eqb-true set s parts.0, (bytes_eq-Decides name n).0 parts.1)

-- a value with another set or name does not match
pub other_key : (o : Option (ℕ × List ℕ)) (set s : ℕ) (name n : List ℕ) → o ≡ Some (set, name) → same_key set name s n ≡ false → is_key o s n ≡ false
other_key o set s name n e other = ap (λ k. is_key k s n) e ∙ other

-- ---- hashes

-- a value with a hash is an attribute
pub hash_key : (keys : Keys) (m h : ℕ) → HasHash keys m h → (s : ℕ) × (n : List ℕ) × (keys m ≡ Some (s, n)) × (attribute_hash s n ≡ h)
hash_key keys m h e = by (keys m) refl
  where
    by : (o : Option (ℕ × List ℕ)) → keys m ≡ o → (s : ℕ) × (n : List ℕ) × (keys m ≡ Some (s, n)) × (attribute_hash s n ≡ h)
    by None is = let wrong : None ≡ Some h = sym (ap (λ p. option_map (λ k. attribute_hash k.0 k.1) p) is) ∙ e in absurd (cc)
    by (Some k) is = (k.0, k.1, is, same_Some (attribute_hash k.0 k.1) h (sym (ap (λ p. option_map (λ x. attribute_hash x.0 x.1) p) is) ∙ e))

pub has_hash : (keys : Keys) (m h s : ℕ) (n : List ℕ) → keys m ≡ Some (s, n) → attribute_hash s n ≡ h → HasHash keys m h
has_hash keys m h s n key hash = ap (λ p. option_map (λ x. attribute_hash x.0 x.1) p) key ∙ ap Some hash

pub taken_is : (r : Spot) (i m : ℕ) → taken_at r ≡ Some (i, m) → r ≡ Taken i m
taken_is (Free j) i m e = absurd (cc)
taken_is (Taken j x) i m e = let parts : (j ≡ i) × (x ≡ m) = some_pair_parts j i x m e in ap₂ (λ (y z : ℕ). Taken y z) parts.0 parts.1
taken_is Full i m e = absurd (cc)

-- the search for the hash of a taken slot ends there
pub reached_at : (keys : Keys) (a : Attributes) (i : ℕ) → IsConsistent keys a → is_free (slot_at a.slots.slots.items i) ≡ false →
    spot_of a.slots (slot_at a.slots.slots.items i).hash ≡ Taken i (slot_at a.slots.slots.items i).number
reached_at keys a i sound taken =
    taken_is (spot_of a.slots (slot_at a.slots.slots.items i).hash) i (slot_at a.slots.slots.items i).number (sound.reached i taken)

-- ---- where an attribute is found

abbrev pub spot_at : Attributes → ℕ → List ℕ → Spot
spot_at a s n = spot_of a.slots (attribute_hash s n)

abbrev pub crowded_at : Attributes → ℕ → List ℕ → Option ℕ
crowded_at a s n = crowded_in a.crowded s n

pub spot_cases : (r : Spot) → ((i : ℕ) × (r ≡ Free i)) ⊎ (((i : ℕ) × (m : ℕ) × (r ≡ Taken i m)) ⊎ (r ≡ Full))
spot_cases (Free i) = inl (i, refl)
spot_cases (Taken i m) = inr (inl (i, m, refl))
spot_cases Full = inr (inr refl)

module _ (keys : Keys) (a : Attributes) (s : ℕ) (n : List ℕ) where
  pub found_free : (i : ℕ) → spot_at a s n ≡ Free i → found_in a keys s n ≡ None
  found_free i e = ap (λ r. number_at (probe_of r keys s n) (crowded_at a s n)) e

  pub found_full : spot_at a s n ≡ Full → found_in a keys s n ≡ crowded_at a s n
  found_full e = ap (λ r. number_at (probe_of r keys s n) (crowded_at a s n)) e

  pub found_taken : (i m : ℕ) → spot_at a s n ≡ Taken i m → is_key (keys m) s n ≡ true → found_in a keys s n ≡ Some m
  found_taken i m e key =
      ap (λ r. number_at (probe_of r keys s n) (crowded_at a s n)) e
      ∙ ap (λ p. number_at p (crowded_at a s n)) (cond-true (is_key (keys m) s n) _ _ key)

  pub found_other : (i m : ℕ) → spot_at a s n ≡ Taken i m → is_key (keys m) s n ≡ false → found_in a keys s n ≡ crowded_at a s n
  found_other i m e key =
      ap (λ r. number_at (probe_of r keys s n) (crowded_at a s n)) e
      ∙ ap (λ p. number_at p (crowded_at a s n)) (cond-false (is_key (keys m) s n) _ _ key)

  -- a value that is found is in a slot or among the crowded
  pub found_cases : (m : ℕ) → found_in a keys s n ≡ Some m →
      ((i : ℕ) × (spot_at a s n ≡ Taken i m) × (is_key (keys m) s n ≡ true)) ⊎ (crowded_at a s n ≡ Some m)
  found_cases m e =
      ⊎_elim
      (λ f. let wrong : None ≡ Some m = sym (found_free f.0 f.1) ∙ e in absurd (cc))
      (λ rest. ⊎_elim
      (λ t. ⊎_elim
      (λ key.
      let same : t.1 ≡ m = same_Some t.1 m (sym (found_taken t.0 t.1 t.2 key) ∙ e) in
      inl (t.0, t.2 ∙ ap (λ x. Taken t.0 x) same, ap (λ x. is_key (keys x) s n) (sym same) ∙ key))
      (λ key. inr (sym (found_other t.0 t.1 t.2 key) ∙ e))
      (cases_Bool (is_key (keys t.1) s n)))
      (λ f. inr (sym (found_full f) ∙ e))
      rest)
      (spot_cases (spot_at a s n))

pub found_key : (keys : Keys) (a : Attributes) (s : ℕ) (n : List ℕ) (m : ℕ) → IsConsistent keys a → found_in a keys s n ≡ Some m → keys m ≡ Some (s, n)
found_key keys a s n m sound e =
    ⊎_elim (λ t. key_is (keys m) s n t.2) (λ c. (sound.named s n m c).0) (found_cases keys a s n m e)

pub not_free : (slot : Slot) → is_free slot ≡ false → slot.number ≢ FREE
not_free slot e is = both_ways (slot.number == FREE) e (eq-eqb slot.number FREE is)

pub found_number : (keys : Keys) (a : Attributes) (s : ℕ) (n : List ℕ) (m : ℕ) → IsConsistent keys a → found_in a keys s n ≡ Some m → m ≢ FREE
found_number keys a s n m sound e =
    ⊎_elim
    (λ t.
    let holds : Holds a.slots.slots.items (attribute_hash s n) t.0 m = taken_in a.slots.slots.items _ (attribute_hash s n) t.0 m t.1 in
    λ is. not_free (slot_at a.slots.slots.items t.0) holds.0 (holds.2 ∙ is))
    (λ c. (sound.named s n m c).1)
    (found_cases keys a s n m e)

-- if the search for an attribute ends at a free slot, no crowded one has its set and name
pub crowded_none : (keys : Keys) (a : Attributes) (s : ℕ) (n : List ℕ) (i : ℕ) → IsConsistent keys a → spot_at a s n ≡ Free i → crowded_at a s n ≡ None
crowded_none keys a s n i sound e = by (crowded_at a s n) refl
  where
    by : (o : Option ℕ) → crowded_at a s n ≡ o → crowded_at a s n ≡ None
    by None is = is
    by (Some m) is = absurd (sound.crowded s n m i is e)

-- two indexes with the same search and the same crowded attributes find the same value
pub found_same : (keys : Keys) (a b : Attributes) (s : ℕ) (n : List ℕ) → spot_at b s n ≡ spot_at a s n → crowded_at b s n ≡ crowded_at a s n →
    found_in b keys s n ≡ found_in a keys s n
found_same keys a b s n spot crowded =
    ap (λ r. number_at (probe_of r keys s n) (crowded_at b s n)) spot
    ∙ ap (λ o. number_at (probe_of (spot_at a s n) keys s n) o) crowded

-- a search that ends at a taken slot or finds all slots taken does not end at a free one
pub ends_taken : (r : Spot) → ((i : ℕ) × (m : ℕ) × (r ≡ Taken i m)) ⊎ (r ≡ Full) → (j : ℕ) → r ≡ Free j → ⊥
ends_taken r (inl t) j wrong = let both : Taken t.0 t.1 ≡ Free j = sym t.2 ∙ wrong in absurd (cc)
ends_taken r (inr f) j wrong = let both : Full ≡ Free j = sym f ∙ wrong in absurd (cc)

pub free_not : (j i m : ℕ) → Free j ≡ Taken i m → ⊥
free_not j i m wrong = absurd (cc)

pub taken_probe : (i p m x : ℕ) → Taken i m ≡ Taken p x → i ≡ p
taken_probe i p m x e = cc

-- a choice between two values, by a test
pub choose : (b : Bool) (m : ℕ) (o r : Option ℕ) → (b ≡ true → r ≡ Some m) → (b ≡ false → r ≡ o) → r ≡ cond b (Some m) o
choose true m o r right wrong = right refl
choose false m o r right wrong = wrong refl
