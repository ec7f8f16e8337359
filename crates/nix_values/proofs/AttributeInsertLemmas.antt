-- An index of attributes after a value is inserted.
use Rattle.std.proofs.Common.{◌≡◌, ◌≢◌, ◌∙◌, ℕ, Bool, true, false, cond, List, Option, Some, None, ⊎_elim, sym, refl, ap, ap₂, subst}
use Rattle.std.specs.Prelude.{if◌then◌else◌}
use Rattle.std.proofs.lemmas.Bool.{cases_Bool, cond-true, cond-false, both_ways}
use Rattle.std.proofs.lemmas.Option.{none-some, some_pair_parts}
use Rattle.nix_values.specs.declared.slots.TheConstants.{FREE}
use Rattle.nix_values.specs.declared.slots.Spot.{Spot}
use Rattle.nix_values.specs.declared.slots.Spot.TheVariants.{Free, Taken, Full}
use Rattle.nix_values.specs.declared.slots.Slots.{Slots}
use Rattle.nix_values.specs.declared.attributes.Probe.TheVariants as probe
use Rattle.nix_values.specs.declared.attributes.Attributes.{Attributes}
use Rattle.nix_values.specs.AttributeHash.{attribute_hash}
use Rattle.nix_values.specs.Keys.{Keys, is_key}
use Rattle.nix_values.specs.HashSlots.{is_free, slot_at, spot_of, first_of, HasNone, IsPut, IsStored}
use Rattle.nix_values.specs.OrderedNames.{HasNoCrowded, IsWithCrowded}
use Rattle.nix_values.specs.IndexedAttributes.{probe_of, probe_in, found_in, HasHash, IsConsistent, FindsNone, IsWithin, IsSame, IsWith, IsInserted, IsNew, IsAddedTo}
use Rattle.nix_values.proofs.SlotLemmas.{Holds, taken_in}
use Rattle.nix_values.proofs.AttributeLemmas.{hash_key, has_hash, key_is, same_key, spot_at, crowded_at, spot_cases, found_free, found_full, found_taken, found_other}
use Rattle.nix_values.proofs.AttributePutLemmas.{with_free, with_taken, with_crowded}

-- ---- no attributes

none_taken : (table : Slots) (g i m : ℕ) → HasNone table → spot_of table g ≡ Taken i m → ⊥
none_taken table g i m none e =
    let holds : Holds table.slots.items g i m = taken_in table.slots.items (first_of table g) g i m e in
    both_ways (is_free (slot_at table.slots.items i)) holds.0 (none i)

pub no_some : (x : ℕ) (o : Option ℕ) → o ≡ None → o ≡ Some x → ⊥
no_some x o none e = none-some x (sym none ∙ e)

pub empty_sound : (keys : Keys) (a : Attributes) → HasNone a.slots → HasNoCrowded a.crowded → IsConsistent keys a
empty_sound keys a none free = record {
  reached = λ i e. absurd (both_ways (is_free (slot_at a.slots.slots.items i)) e (none i));
  hashed = λ g i m e. absurd (none_taken a.slots g i m none e);
  named = λ s n m e. absurd (no_some m (crowded_at a s n) (free s n) e);
  crowded = λ s n m i e f. no_some m (crowded_at a s n) (free s n) e;
}

pub empty_finds : (keys : Keys) (a : Attributes) → HasNone a.slots → HasNoCrowded a.crowded → FindsNone keys a
empty_finds keys a none free = λ s n.
    ⊎_elim
    (λ f. found_free keys a s n f.0 f.1)
    (λ rest. ⊎_elim
    (λ t. absurd (none_taken a.slots (attribute_hash s n) t.0 t.1 none t.2))
    (λ f. found_full keys a s n f ∙ free s n)
    rest)
    (spot_cases (spot_at a s n))

pub empty_within : (keys : Keys) (a others : Attributes) → HasNone a.slots → HasNoCrowded a.crowded → IsWithin keys a others
empty_within keys a others none free = λ s n m e. absurd (no_some m (found_in a keys s n) (empty_finds keys a none free s n) e)

-- ---- values with more attributes

abbrev pub Extends : Keys → Keys → Type 0
Extends keys later = (n : ℕ) (key : ℕ × List ℕ) → keys n ≡ Some key → later n ≡ Some key

pub later_sound : (keys later : Keys) (a : Attributes) → IsConsistent keys a → Extends keys later → IsConsistent later a
later_sound keys later a sound more = record {
  reached = sound.reached;
  hashed = λ g i m e. let h = hash_key keys m g (sound.hashed g i m e) in has_hash later m g h.0 h.1 (more m (h.0, h.1) h.2) h.3;
  named = λ s n m e. let h = sound.named s n m e in (more m (s, n) h.0, h.1);
  crowded = sound.crowded;
}

pub later_finds : (keys later : Keys) (a : Attributes) → IsConsistent keys a → Extends keys later → (s : ℕ) (n : List ℕ) →
    found_in a later s n ≡ found_in a keys s n
later_finds keys later a sound more s n =
    ⊎_elim
    (λ f. found_free later a s n f.0 f.1 ∙ sym (found_free keys a s n f.0 f.1))
    (λ rest. ⊎_elim
    (λ t.
    let h = hash_key keys t.1 (attribute_hash s n) (sound.hashed (attribute_hash s n) t.0 t.1 t.2) in
    let same : later t.1 ≡ keys t.1 = more t.1 (h.0, h.1) h.2 ∙ sym h.2 in
    ⊎_elim
    (λ right. found_taken later a s n t.0 t.1 t.2 (ap (λ o. is_key o s n) same ∙ right) ∙ sym (found_taken keys a s n t.0 t.1 t.2 right))
    (λ wrong. found_other later a s n t.0 t.1 t.2 (ap (λ o. is_key o s n) same ∙ wrong) ∙ sym (found_other keys a s n t.0 t.1 t.2 wrong))
    (cases_Bool (is_key (keys t.1) s n)))
    (λ f. found_full later a s n f ∙ sym (found_full keys a s n f))
    rest)
    (spot_cases (spot_at a s n))

-- ---- where an attribute is

pub probe_free : (r : Spot) (keys : Keys) (s : ℕ) (n : List ℕ) (i : ℕ) → probe_of r keys s n ≡ probe.Free i → r ≡ Free i
probe_free (Free j) keys s n i e = cc
probe_free (Taken j m) keys s n i e = absurd (by (is_key (keys m) s n) e)
  where
    by : (b : Bool) → (if b then probe.Taken j m else probe.Crowded) ≡ probe.Free i → ⊥
    by true e = absurd (cc)
    by false e = absurd (cc)
probe_free Full keys s n i e = absurd (cc)

pub probe_taken : (r : Spot) (keys : Keys) (s : ℕ) (n : List ℕ) (i m : ℕ) → probe_of r keys s n ≡ probe.Taken i m →
    (r ≡ Taken i m) × (is_key (keys m) s n ≡ true)
probe_taken (Free j) keys s n i m e = absurd (cc)
probe_taken (Taken j x) keys s n i m e = by (is_key (keys x) s n) refl
  where
    by : (b : Bool) → is_key (keys x) s n ≡ b → (Taken j x ≡ Taken i m) × (is_key (keys m) s n ≡ true)
    by true right =
        let is : probe.Taken j x ≡ probe.Taken i m = sym (cond-true (is_key (keys x) s n) (probe.Taken j x) probe.Crowded right) ∙ e in
        let number : x ≡ m = cc in
        let spot : Taken j x ≡ Taken i m = cc in
        (spot, ap (λ y. is_key (keys y) s n) (sym number) ∙ right)
    by false wrong =
        let is : probe.Crowded ≡ probe.Taken i m = sym (cond-false (is_key (keys x) s n) (probe.Taken j x) probe.Crowded wrong) ∙ e in
        absurd (cc)
probe_taken Full keys s n i m e = absurd (cc)

pub probe_crowded : (r : Spot) (keys : Keys) (s : ℕ) (n : List ℕ) → probe_of r keys s n ≡ probe.Crowded →
    ((i : ℕ) → r ≡ Free i → ⊥) × ((i m : ℕ) → r ≡ Taken i m → is_key (keys m) s n ≡ true → ⊥)
probe_crowded r keys s n e = (
  λ i f. free_probe i (sym (ap (λ x. probe_of x keys s n) f) ∙ e),
  λ i m t right. taken_probe i m (sym (ap (λ x. probe_of x keys s n) t ∙ cond-true (is_key (keys m) s n) (probe.Taken i m) probe.Crowded right) ∙ e),
)
  where
    free_probe : (i : ℕ) → probe.Free i ≡ probe.Crowded → ⊥
    free_probe i wrong = absurd (cc)

    taken_probe : (i m : ℕ) → probe.Taken i m ≡ probe.Crowded → ⊥
    taken_probe i m wrong = absurd (cc)

-- ---- one more attribute

pub same_pair : (keys : Keys) (m s t : ℕ) (n k : List ℕ) → keys m ≡ Some (s, n) → keys m ≡ Some (t, k) → (s ≡ t) × (n ≡ k)
same_pair keys m s t n k e f = some_pair_parts s t n k (sym e ∙ f)

-- the hash of an attribute is that of its set and name
pub hash_is : (keys : Keys) (m h s : ℕ) (n : List ℕ) → HasHash keys m h → keys m ≡ Some (s, n) → attribute_hash s n ≡ h
hash_is keys m h s n has e =
    let k = hash_key keys m h has in
    let same : (s ≡ k.0) × (n ≡ k.1) = same_pair keys m s k.0 n k.1 e k.2 in
    ap₂ attribute_hash same.0 same.1 ∙ k.3

pub added_free : (keys : Keys) (a b : Attributes) (m h : ℕ) → IsConsistent keys a → HasHash keys m h → m ≢ FREE → IsStored a.slots h m b.slots →
    b.crowded ≡ a.crowded → IsAddedTo keys a m b
added_free keys a b m h sound has number added rest = λ s n key.
    let hash : attribute_hash s n ≡ h = hash_is keys m h s n has key in
    let put : IsPut a.slots added.at (attribute_hash s n) m b.slots = subst (λ g. IsPut a.slots added.at g m b.slots) (sym hash) added.put in
    with_free keys a b s n m added.at sound (ap (spot_of a.slots) hash ∙ added.spot) put rest number key

pub added_crowded : (keys : Keys) (a b : Attributes) (m h t : ℕ) (k : List ℕ) → IsConsistent keys a → HasHash keys m h → m ≢ FREE → IsNew keys a m →
    ((i : ℕ) → spot_of a.slots h ≡ Free i → ⊥) → b.slots ≡ a.slots → keys m ≡ Some (t, k) → IsWithCrowded a.crowded t k m b.crowded → IsAddedTo keys a m b
added_crowded keys a b m h t k sound has number new none slots is more = λ s n key.
    let hash : attribute_hash s n ≡ h = hash_is keys m h s n has key in
    let same : (t ≡ s) × (k ≡ n) = same_pair keys m t s k n is key in
    let with_it : IsWithCrowded a.crowded s n m b.crowded =
    subst (λ x. IsWithCrowded a.crowded s x m b.crowded) same.1 (subst (λ x. IsWithCrowded a.crowded x k m b.crowded) same.0 more) in
    with_crowded keys a b s n m sound slots with_it number key
    (λ i f. none i (sym (ap (spot_of a.slots) hash) ∙ f))
    (λ i x e right. new s n x key (found_taken keys a s n i x e right))

-- ---- inserting a value that the values do not contain yet

module _ (keys later : Keys) (a b : Attributes) (s : ℕ) (n : List ℕ) (m : ℕ) (sound : IsConsistent keys a) (more : Extends keys later)
    (number : m ≢ FREE) (key : later m ≡ Some (s, n)) where
  pub inserted_free : (p : ℕ) → probe_in a keys s n ≡ probe.Free p → IsPut a.slots p (attribute_hash s n) m b.slots → b.crowded ≡ a.crowded →
      IsWith later a s n m b
  inserted_free p at put rest =
      with_free later a b s n m p (later_sound keys later a sound more) (probe_free (spot_at a s n) keys s n p at) put rest number key

  pub inserted_taken : (p x : ℕ) → probe_in a keys s n ≡ probe.Taken p x → IsPut a.slots p (attribute_hash s n) m b.slots → b.crowded ≡ a.crowded →
      IsWith later a s n m b
  inserted_taken p x at put rest =
      let there = probe_taken (spot_at a s n) keys s n p x at in
      with_taken later a b s n m p x (later_sound keys later a sound more) there.0 (more x (s, n) (key_is (keys x) s n there.1)) put rest number key

  later_key : (i x : ℕ) → spot_at a s n ≡ Taken i x → is_key (later x) s n ≡ true → is_key (keys x) s n ≡ true
  later_key i x e is =
      let h = hash_key keys x (attribute_hash s n) (sound.hashed (attribute_hash s n) i x e) in
      let same : later x ≡ keys x = more x (h.0, h.1) h.2 ∙ sym h.2 in
      ap (λ o. is_key o s n) (sym same) ∙ is

  pub inserted_crowded : probe_in a keys s n ≡ probe.Crowded → b.slots ≡ a.slots → IsWithCrowded a.crowded s n m b.crowded → IsWith later a s n m b
  inserted_crowded at slots with_it =
      let there = probe_crowded (spot_at a s n) keys s n at in
      with_crowded later a b s n m (later_sound keys later a sound more) slots with_it number key there.0
      (λ i x e is. absurd (there.1 i x e (later_key i x e is)))

-- a value that is inserted after the others were moved
pub inserted_same : (keys : Keys) (old middle new : Attributes) (s : ℕ) (n : List ℕ) (m : ℕ) → IsConsistent keys old → IsSame keys old middle →
    IsInserted keys middle s n m new → IsInserted keys old s n m new
inserted_same keys old middle new s n m sound same inserted = λ later more key.
    let with_it = inserted later more key in
    record {
      sound = with_it.sound;
      finds = λ t k. with_it.finds t k
          ∙ ap (λ o. cond (same_key s n t k) (Some m) o)
          (later_finds keys later middle same.sound more t k ∙ same.finds t k ∙ sym (later_finds keys later old sound more t k));
    }
