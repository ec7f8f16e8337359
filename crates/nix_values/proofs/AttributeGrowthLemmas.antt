-- Attributes of one index that are added to another, one by one.
use Rattle.std.proofs.Common.{◌≡◌, ◌∙◌, ℕ, ◌+◌, ◌<◌, length, Bool, true, false, List, [], ◌∷◌, Option, Some, None, ◌⊎◌, inl, inr, ⊎_elim, sym, refl, ap, ap₂, subst, arith}
use Rattle.std.specs.Map.{lookup, values_of}
use Rattle.std.specs.Ordering.{nat_cmp}
use Rattle.std.specs.BTreeMap.{BTreeMap, values, get, get_by_text}
use Rattle.std.proofs.Math.ListN.{get_or}
use Rattle.std.proofs.lemmas.List.{get_or_default}
use Rattle.std.proofs.lemmas.Bool.{cases_Bool, cases_eq, cond-true, cond-false, both_ways}
use Rattle.std.proofs.lemmas.Option.{same_Some, none-some, some_pair_parts, option_and_then_some}
use Rattle.nix_values.specs.declared.slots.Slot.{Slot}
use Rattle.nix_values.specs.declared.attributes.Attributes.{Attributes}
use Rattle.nix_values.specs.AttributeHash.{attribute_hash}
use Rattle.nix_values.specs.Keys.{Keys}
use Rattle.nix_values.specs.HashSlots.{is_free, slot_entry, free_slot, slot_at, spot_of, first_of}
use Rattle.nix_values.specs.OrderedNames.{IsOneOf}
use Rattle.nix_values.specs.IndexedAttributes.{found_in, HasHash, IsConsistent, IsWithin, IsSame, IsWith, IsNew, IsAddedTo, IsFoundAdded, AreSlotsAdded, AreSetsAdded, AreCrowdedAdded}
use Rattle.nix_values.proofs.AttributeInsertLemmas.{same_pair, hash_is}
use Rattle.nix_values.proofs.SlotLemmas.{Holds, taken_in}
use Rattle.nix_values.proofs.AttributeLemmas.{hash_key, reached_at, key_is, key_yes, same_key, same_is, found_taken, found_cases, found_key}

-- ---- attributes that another index has, too

pub within_with : (keys : Keys) (a b others : Attributes) (s : ℕ) (n : List ℕ) (m : ℕ) → IsWith keys a s n m b → IsWithin keys a others →
    found_in others keys s n ≡ Some m → IsWithin keys b others
within_with keys a b others s n m more within there = λ t k x e.
    ⊎_elim
    (λ same.
    let is = same_is s t n k same in
    let number : m ≡ x = same_Some m x (sym (more.finds t k ∙ cond-true (same_key s n t k) (Some m) (found_in a keys t k) same) ∙ e) in
    ap₂ (λ y z. found_in others keys y z) (sym is.0) (sym is.1) ∙ there ∙ ap Some number)
    (λ other. within t k x (sym (more.finds t k ∙ cond-false (same_key s n t k) (Some m) (found_in a keys t k) other) ∙ e))
    (cases_Bool (same_key s n t k))

pub kept_with : (keys : Keys) (a b : Attributes) (s : ℕ) (n : List ℕ) (m : ℕ) → IsWith keys a s n m b →
    ((x : ℕ) → found_in a keys s n ≡ Some x → x ≡ m) → IsWithin keys a b
kept_with keys a b s n m more only = λ t k x e.
    ⊎_elim
    (λ same.
    let is = same_is s t n k same in
    let number : x ≡ m = only x (ap₂ (λ y z. found_in a keys y z) is.0 is.1 ∙ e) in
    more.finds t k ∙ cond-true (same_key s n t k) (Some m) (found_in a keys t k) same ∙ ap Some (sym number))
    (λ other. more.finds t k ∙ cond-false (same_key s n t k) (Some m) (found_in a keys t k) other ∙ e)
    (cases_Bool (same_key s n t k))

pub with_finds : (keys : Keys) (a b : Attributes) (s : ℕ) (n : List ℕ) (m : ℕ) → IsWith keys a s n m b → found_in b keys s n ≡ Some m
with_finds keys a b s n m more =
    more.finds s n ∙ cond-true (same_key s n s n) (Some m) (found_in a keys s n) (key_yes (Some (s, n)) s n refl)

-- the value in a slot is found
pub slot_found : (keys : Keys) (a : Attributes) (i s : ℕ) (n : List ℕ) → IsConsistent keys a → is_free (slot_at a.slots.slots.items i) ≡ false →
    keys (slot_at a.slots.slots.items i).number ≡ Some (s, n) → found_in a keys s n ≡ Some (slot_at a.slots.slots.items i).number
slot_found keys a i s n sound taken key =
    let slot = slot_at a.slots.slots.items i in
    let spot = reached_at keys a i sound taken in
    let hash : attribute_hash s n ≡ slot.hash = hash_is keys slot.number slot.hash s n (sound.hashed slot.hash i slot.number spot) key in
    found_taken keys a s n i slot.number (ap (spot_of a.slots) hash ∙ spot) (key_yes (keys slot.number) s n key)

-- if another index finds a value as its own attribute, no other value is found as that attribute
pub new_within : (keys : Keys) (a others : Attributes) (m : ℕ) → IsWithin keys a others →
    ((s : ℕ) (n : List ℕ) → keys m ≡ Some (s, n) → found_in others keys s n ≡ Some m) → IsNew keys a m
new_within keys a others m within there = λ s n x key e. same_Some x m (sym (within s n x e) ∙ there s n key)

both_within : (o r : Option ℕ) → ((x : ℕ) → o ≡ Some x → r ≡ Some x) → ((x : ℕ) → r ≡ Some x → o ≡ Some x) → o ≡ r
both_within (Some x) r there back = sym (there x refl)
both_within None None there back = refl
both_within None (Some x) there back = back x refl

-- the attributes in slots and the crowded ones are all attributes
pub grown_same : (keys : Keys) (old middle new : Attributes) → IsConsistent keys old → AreSlotsAdded keys old middle → AreCrowdedAdded keys old middle new →
    IsSame keys old new
grown_same keys old middle new sound slots crowded = record {
  sound = crowded.sound;
  finds = λ s n. both_within (found_in new keys s n) (found_in old keys s n) (crowded.within s n)
      (λ x e. ⊎_elim
      (λ t.
      let holds : Holds old.slots.slots.items (attribute_hash s n) t.0 x =
      taken_in old.slots.slots.items (first_of old.slots (attribute_hash s n)) (attribute_hash s n) t.0 x t.1 in
      let key : keys (slot_at old.slots.slots.items t.0).number ≡ Some (s, n) = ap keys holds.2 ∙ key_is (keys x) s n t.2 in
      crowded.kept s n x (slots.all t.0 s n holds.0 key ∙ ap Some holds.2))
      (λ c. crowded.all s n x c e)
      (found_cases keys old s n x e));
}

-- ---- the slots of another index, one by one

-- the attributes in the first slots have been added
pub record IsAddedTill (keys : Keys) (others new : Attributes) (count : ℕ) : Type 0 where
  pub sound : IsConsistent keys new
  pub within : IsWithin keys new others
  pub all : (j s : ℕ) (n : List ℕ) → j < count → is_free (slot_at others.slots.slots.items j) ≡ false →
      keys (slot_at others.slots.slots.items j).number ≡ Some (s, n) → found_in new keys s n ≡ Some (slot_at others.slots.slots.items j).number

pub till_free : (keys : Keys) (others new : Attributes) (i : ℕ) → IsAddedTill keys others new i → is_free (slot_at others.slots.slots.items i) ≡ true →
    IsAddedTill keys others new (i + 1)
till_free keys others new i till free = record {
  sound = till.sound;
  within = till.within;
  all = λ j s n before taken key. ⊎_elim
      (λ is. absurd (both_ways (is_free (slot_at others.slots.slots.items i)) (ap (λ k. is_free (slot_at others.slots.slots.items k)) (sym is) ∙ taken) free))
      (λ other. let less : j < i = omega (arith, before, other) in till.all j s n less taken key)
      (cases_eq j i);
}

pub slot_hash : (keys : Keys) (a : Attributes) (i : ℕ) → IsConsistent keys a → is_free (slot_at a.slots.slots.items i) ≡ false →
    HasHash keys (slot_at a.slots.slots.items i).number (slot_at a.slots.slots.items i).hash
slot_hash keys a i sound taken =
    let slot = slot_at a.slots.slots.items i in
    sound.hashed slot.hash i slot.number (reached_at keys a i sound taken)

pub slot_new : (keys : Keys) (a others : Attributes) (i : ℕ) → IsConsistent keys others → IsWithin keys a others →
    is_free (slot_at others.slots.slots.items i) ≡ false → IsNew keys a (slot_at others.slots.slots.items i).number
slot_new keys a others i sound within taken =
    new_within keys a others (slot_at others.slots.slots.items i).number within (λ s n key. slot_found keys others i s n sound taken key)

pub till_added : (keys : Keys) (others old new : Attributes) (i : ℕ) → IsConsistent keys others → IsAddedTill keys others old i →
    is_free (slot_at others.slots.slots.items i) ≡ false → IsAddedTo keys old (slot_at others.slots.slots.items i).number new →
    IsAddedTill keys others new (i + 1)
till_added keys others old new i sound till taken added =
    let slot = slot_at others.slots.slots.items i in
    let h = hash_key keys slot.number slot.hash (slot_hash keys others i sound taken) in
    let more = added h.0 h.1 h.2 in
    let there = slot_found keys others i h.0 h.1 sound taken h.2 in
    let is_new = slot_new keys old others i sound till.within taken in
    record {
      sound = more.sound;
      within = within_with keys old new others h.0 h.1 slot.number more till.within there;
      all = λ j s n before other key. ⊎_elim
          (λ is.
          let number : (slot_at others.slots.slots.items j).number ≡ slot.number = ap (λ k. (slot_at others.slots.slots.items k).number) is in
          let here = with_finds keys old new s n slot.number (added s n (ap keys (sym number) ∙ key)) in
          here ∙ ap Some (sym number))
          (λ apart.
          let less : j < i = omega (arith, before, apart) in
          kept_with keys old new h.0 h.1 slot.number more (λ x e. is_new h.0 h.1 x h.2 e) s n (slot_at others.slots.slots.items j).number
          (till.all j s n less other key))
          (cases_eq j i);
    }

-- the entry of a slot
entry_is : (slot : Slot) (h m : ℕ) → Some (h, m) ≡ slot_entry slot → (is_free slot ≡ false) × (slot.hash ≡ h) × (slot.number ≡ m)
entry_is slot h m e = by (is_free slot) refl
  where
    by : (b : Bool) → is_free slot ≡ b → (is_free slot ≡ false) × (slot.hash ≡ h) × (slot.number ≡ m)
    by true is = absurd (none-some {A = ℕ × ℕ} (h, m) (sym (e ∙ cond-true (is_free slot) None (Some (slot.hash, slot.number)) is)))
    by false is =
        let same : (h ≡ slot.hash) × (m ≡ slot.number) =
        some_pair_parts h slot.hash m slot.number (e ∙ cond-false (is_free slot) None (Some (slot.hash, slot.number)) is) in
        (is, sym same.0, sym same.1)

entry_none : (slot : Slot) → None ≡ slot_entry slot → is_free slot ≡ true
entry_none slot e = by (is_free slot) refl
  where
    by : (b : Bool) → is_free slot ≡ b → is_free slot ≡ true
    by true is = is
    by false is = absurd (none-some {A = ℕ × ℕ} (slot.hash, slot.number) (e ∙ cond-false (is_free slot) None (Some (slot.hash, slot.number)) is))

module _ (keys : Keys) (others : Attributes) (items : List Slot) (i : ℕ) (d : Slot) (is : items ≡ others.slots.slots.items) (inside : i < length items) where
  item_is : get_or items i d ≡ slot_at others.slots.slots.items i
  item_is = get_or_default items i d free_slot inside ∙ ap (λ x. slot_at x i) is

  pub entry_new : (a : Attributes) (h m : ℕ) → Some (h, m) ≡ slot_entry (get_or items i d) → IsConsistent keys others → IsWithin keys a others → IsNew keys a m
  entry_new a h m e sound within =
      let entry = entry_is (slot_at others.slots.slots.items i) h m (e ∙ ap slot_entry item_is) in
      subst (λ x. IsNew keys a x) entry.2 (slot_new keys a others i sound within entry.0)

  pub entry_added : (old new : Attributes) (h m : ℕ) → Some (h, m) ≡ slot_entry (get_or items i d) → IsConsistent keys others → IsAddedTill keys others old i →
      IsAddedTo keys old m new → IsAddedTill keys others new (i + 1)
  entry_added old new h m e sound till added =
      let entry = entry_is (slot_at others.slots.slots.items i) h m (e ∙ ap slot_entry item_is) in
      till_added keys others old new i sound till entry.0 (subst (λ x. IsAddedTo keys old x new) (sym entry.2) added)

  pub entry_free : (new : Attributes) → None ≡ slot_entry (get_or items i d) → IsAddedTill keys others new i → IsAddedTill keys others new (i + 1)
  entry_free new e till = till_free keys others new i till (entry_none (slot_at others.slots.slots.items i) (e ∙ ap slot_entry item_is))

-- ---- the crowded attributes of another index, one by one

-- a value that the other index does not find
pub found_none : (keys : Keys) (others a : Attributes) (m : ℕ) → IsConsistent keys a → IsWithin keys a others →
    ((s : ℕ) (n : List ℕ) → found_in others keys s n ≡ Some m → ⊥) → IsFoundAdded keys others m a a
found_none keys others a m sound within none = record {
  sound = sound;
  within = within;
  kept = λ s n x e. e;
  all = λ s n e. absurd (none s n e);
}

-- a value that is added
pub found_added : (keys : Keys) (others a b : Attributes) (m t : ℕ) (k : List ℕ) → IsConsistent keys others → IsWithin keys a others →
    keys m ≡ Some (t, k) → found_in others keys t k ≡ Some m → IsAddedTo keys a m b → IsFoundAdded keys others m a b
found_added keys others a b m t k sound within key there added =
    let more = added t k key in
    record {
      sound = more.sound;
      within = within_with keys a b others t k m more within there;
      kept = kept_with keys a b t k m more (λ x e. same_Some x m (sym (within t k x e) ∙ there));
      all = λ s n e. with_finds keys a b s n m (added s n (found_key keys others s n m sound e));
    }

-- a value that is not found as its own attribute, or is not an attribute, is not found at all
pub found_other_key : (keys : Keys) (others : Attributes) (m t : ℕ) (k : List ℕ) → IsConsistent keys others → keys m ≡ Some (t, k) →
    (found_in others keys t k ≡ Some m → ⊥) → (s : ℕ) (n : List ℕ) → found_in others keys s n ≡ Some m → ⊥
found_other_key keys others m t k sound key none s n e =
    let same : (s ≡ t) × (n ≡ k) = same_pair keys m s t n k (found_key keys others s n m sound e) key in
    none (ap₂ (λ x y. found_in others keys x y) (sym same.0) (sym same.1) ∙ e)

-- all but the remaining values with a name have been added
pub record AreSetsTill (keys : Keys) (others : Attributes) (sets : BTreeMap ℕ ℕ) (old new : Attributes) (remaining : List ℕ) : Type 0 where
  pub sound : IsConsistent keys new
  pub within : IsWithin keys new others
  pub kept : IsWithin keys old new
  pub all : (m : ℕ) → IsOneOf (values sets) m → IsOneOf remaining m ⊎ ((s : ℕ) (n : List ℕ) → found_in others keys s n ≡ Some m
      → found_in new keys s n ≡ Some m)

pub sets_more : (keys : Keys) (others : Attributes) (sets : BTreeMap ℕ ℕ) (old middle new : Attributes) (before remaining : List ℕ) (m : ℕ)
    → before ≡ m ∷ remaining →
    AreSetsTill keys others sets old middle before → IsFoundAdded keys others m middle new → AreSetsTill keys others sets old new remaining
sets_more keys others sets old middle new before remaining m is till added = record {
  sound = added.sound;
  within = added.within;
  kept = λ s n x e. added.kept s n x (till.kept s n x e);
  all = λ x one. ⊎_elim
      (λ rest. ⊎_elim
      (λ here. inr (λ s n e. added.all s n (e ∙ ap Some (sym here)) ∙ ap Some here))
      (λ more. inl more)
      (subst (λ xs. IsOneOf xs x) is rest))
      (λ done. inr (λ s n e. added.kept s n x (done s n e)))
      (till.all x one);
}

-- all but the remaining names have been added
pub record AreNamesTill (keys : Keys) (others old new : Attributes) (remaining : List (BTreeMap ℕ ℕ)) : Type 0 where
  pub sound : IsConsistent keys new
  pub within : IsWithin keys new others
  pub kept : IsWithin keys old new
  pub all : (sets : BTreeMap ℕ ℕ) → IsOneOf (values others.crowded.names) sets → IsOneOf remaining sets ⊎
      ((s : ℕ) (n : List ℕ) (m : ℕ) → IsOneOf (values sets) m → found_in others keys s n ≡ Some m → found_in new keys s n ≡ Some m)

pub names_added : (keys : Keys) (others old middle new : Attributes) (before remaining : List (BTreeMap ℕ ℕ)) (sets : BTreeMap ℕ ℕ)
    → before ≡ sets ∷ remaining →
    AreNamesTill keys others old middle before → AreSetsAdded keys others sets middle new → AreNamesTill keys others old new remaining
names_added keys others old middle new before remaining sets is till added = record {
  sound = added.sound;
  within = added.within;
  kept = λ s n x e. added.kept s n x (till.kept s n x e);
  all = λ x one. ⊎_elim
      (λ rest. ⊎_elim
      (λ here. inr (λ s n m among e. added.all s n m (subst (λ y. IsOneOf (values y) m) (sym here) among) e))
      (λ more. inl more)
      (subst (λ xs. IsOneOf xs x) is rest))
      (λ done. inr (λ s n m among e. added.kept s n m (done s n m among e)))
      (till.all x one);
}

-- ---- a value that is found is one of the values

pub one_of : {K X : Type 0} (test : K → Bool) (es : List (K × X)) (x : X) → lookup test es ≡ Some x → IsOneOf (values_of es) x
one_of test [] x e = absurd (cc)
one_of test (p ∷ ps) x e =
    ⊎_elim
    (λ right. let is : Some p.1 ≡ Some x = sym (cond-true (test p.0) (Some p.1) (lookup test ps) right) ∙ e in inl (same_Some p.1 x is))
    (λ wrong. inr (one_of test ps x (sym (cond-false (test p.0) (Some p.1) (lookup test ps) wrong) ∙ e)))
    (cases_Bool (test p.0))

pub names_all : (keys : Keys) (others old new : Attributes) (remaining : List (BTreeMap ℕ ℕ)) → AreNamesTill keys others old new remaining → remaining ≡ [] →
    AreCrowdedAdded keys others old new
names_all keys others old new remaining till none = record {
  sound = till.sound;
  within = till.within;
  kept = till.kept;
  all = λ s n m c e.
      option_and_then_some (λ sets. get nat_cmp sets s) (get_by_text others.crowded.names n) m c
      (λ sets there found.
      ⊎_elim
      (λ rest. absurd (subst (λ xs. IsOneOf xs sets) none rest))
      (λ done. done s n m (one_of _ sets.entries m found) e)
      (till.all sets (one_of _ others.crowded.names.entries sets there)));
}
