-- The attributes among values after one more is added.
use Rattle.std.proofs.Common.{◌≡◌, ◌∙◌, ℕ, zero, suc, ◌<◌, ◌≤◌, ◌&&◌, true, false, cond, List, [], ◌∷◌, ◌++◌, length, Option, Some, None, ⊎_elim, sym, refl, ap, ap₂, arith}
use Rattle.std.specs.Prelude.{nat_lt, slice_get, option_and_then, if◌then◌else◌}
use Rattle.std.proofs.lemmas.Bool.{cases_Bool, cases_lt, cond-true, cond-false, ltb-true, lt-ltb, and_from, and_left, and_right}
use Rattle.std.proofs.lemmas.List.{length-append}
use Rattle.std.proofs.lemmas.Option.{slice_get_past, slice_get_within}
use Rattle.nix_values.specs.declared.attributes.Attributes.{Attributes}
use Rattle.nix_values.specs.Keys.{Keys, is_key}
use Rattle.nix_values.specs.Built.{Built, is_set_found, is_set_at, keys_of, last_of, attribute_of}
use Rattle.nix_values.specs.IndexedAttributes.{found_in, IsConsistent, IsInserted}
use Rattle.nix_values.specs.Index.{IsIndex}
use Rattle.nix_values.proofs.AttributeInsertLemmas.{Extends, later_sound, later_finds}

-- ---- a list with one more element

pub get_last : {X : Type 0} (xs : List X) (y : X) → slice_get (xs ++ y ∷ []) (length xs) ≡ Some y
get_last [] y = refl
get_last (x ∷ xs) y = get_last xs y

pub get_before : {X : Type 0} (xs : List X) (y : X) (i : ℕ) → (i ≡ length xs → ⊥) → slice_get (xs ++ y ∷ []) i ≡ slice_get xs i
get_before [] y zero other = absurd (other refl)
get_before [] y (suc i) other = refl
get_before (x ∷ xs) y zero other = refl
get_before (x ∷ xs) y (suc i) other = get_before xs y i (λ e. other (ap suc e))

-- ---- keys

-- the set and the name of a value with a parent
abbrev key_by : List Built → ℕ → List ℕ → Option ℕ → Option (ℕ × List ℕ)
key_by values number name parent =
    option_and_then {U = ℕ × List ℕ} (λ p. if nat_lt p number && is_set_at values p then Some (p, name) else None) parent

abbrev key_at : List Built → ℕ → Built → Option (ℕ × List ℕ)
key_at values number found = key_by values number found.name found.parent

set_before : (values : List Built) (b : Built) (p : ℕ) → (p ≡ length values → ⊥) → is_set_at (values ++ b ∷ []) p ≡ is_set_at values p
set_before values b p other = ap is_set_found (get_before values b p other)

-- adding a value does not change which attributes the values before it are
key_at_before : (values : List Built) (b found : Built) (i : ℕ) → i ≤ length values → key_at (values ++ b ∷ []) i found ≡ key_at values i found
key_at_before values b found i inside = by found.parent
  where
    test : (p : ℕ) → (nat_lt p i && is_set_at (values ++ b ∷ []) p) ≡ (nat_lt p i && is_set_at values p)
    test p =
        ⊎_elim
        (λ less.
        let before : p < i = ltb-true p i less in
        ap (λ t. nat_lt p i && t) (set_before values b p (λ e. absurd (omega arith))))
        (λ more. and_left (nat_lt p i) (is_set_at (values ++ b ∷ []) p) more ∙ sym (and_left (nat_lt p i) (is_set_at values p) more))
        (cases_Bool (nat_lt p i))

    by : (o : Option ℕ) → key_by (values ++ b ∷ []) i found.name o ≡ key_by values i found.name o
    by None = refl
    by (Some p) = ap (λ t. cond {A = Option (ℕ × List ℕ)} t (Some (p, found.name)) None) (test p)

pub key_past : (values : List Built) (i : ℕ) → length values ≤ i → keys_of values i ≡ None
key_past values i past = ap (option_and_then (key_at values i)) (slice_get_past values i past)

pub key_before : (values : List Built) (b : Built) (i : ℕ) → (i ≡ length values → ⊥) → keys_of (values ++ b ∷ []) i ≡ keys_of values i
key_before values b i other =
    ⊎_elim
    (λ less. ap (option_and_then (key_at (values ++ b ∷ []) i)) (get_before values b i other) ∙ by (slice_get values i) less)
    (λ more.
    let past : length (values ++ b ∷ []) ≤ i = omega (arith, length-append values (b ∷ []), other, more) in
    key_past (values ++ b ∷ []) i past ∙ sym (key_past values i more))
    (cases_lt i (length values))
  where
    by : (o : Option Built) → i < length values → option_and_then (key_at (values ++ b ∷ []) i) o ≡ option_and_then (key_at values i) o
    by None less = refl
    by (Some found) less = key_at_before values b found i (omega (arith, less))

key_last : (values : List Built) (b : Built) → keys_of (values ++ b ∷ []) (length values) ≡ key_at values (length values) b
key_last values b =
    ap (option_and_then (key_at (values ++ b ∷ []) (length values))) (get_last values b)
    ∙ key_at_before values b b (length values) (omega arith)

-- the last value is an attribute of the set that contains it
pub key_in_set : (values : List Built) (b : Built) (p : ℕ) → b.parent ≡ Some p → is_set_at values p ≡ true →
    keys_of (values ++ b ∷ []) (length values) ≡ Some (p, b.name)
key_in_set values b p inside is_set =
    let before : p < length values = set_within p is_set in
    let test : (nat_lt p (length values) && is_set_at values p) ≡ true = and_from (nat_lt p (length values)) (is_set_at values p)
    (lt-ltb p (length values) before) is_set in
    key_last values b
    ∙ ap (key_by values (length values) b.name) inside
    ∙ cond-true (nat_lt p (length values) && is_set_at values p) (Some (p, b.name)) None test
  where
    set_within : (q : ℕ) → is_set_at values q ≡ true → q < length values
    set_within q e = by (slice_get values q) refl
      where
        by : (o : Option Built) → slice_get values q ≡ o → q < length values
        by None is = let wrong : false ≡ true = sym (ap is_set_found is) ∙ e in absurd (cc)
        by (Some found) is = slice_get_within values q found is

pub key_outside : (values : List Built) (b : Built) → b.parent ≡ None → keys_of (values ++ b ∷ []) (length values) ≡ None
key_outside values b none =
    key_last values b
    ∙ ap (key_by values (length values) b.name) none

pub key_in_other : (values : List Built) (b : Built) (p : ℕ) → b.parent ≡ Some p → is_set_at values p ≡ false →
    keys_of (values ++ b ∷ []) (length values) ≡ None
key_in_other values b p inside other =
    key_last values b
    ∙ ap (key_by values (length values) b.name) inside
    ∙ cond-false (nat_lt p (length values) && is_set_at values p) (Some (p, b.name)) None (and_right (nat_lt p (length values)) (is_set_at values p) other)

-- ---- the last value

last_same : (keys later : Keys) (count : ℕ) (s : ℕ) (n : List ℕ) → ((i : ℕ) → i < count → later i ≡ keys i) → last_of later count s n ≡ last_of keys count s n
last_same keys later zero s n same = refl
last_same keys later (suc count) s n same =
    ap₂ (λ k (r : Option ℕ). if is_key k s n then Some count else r) (same count (omega arith))
    (last_same keys later count s n (λ i less. same i (omega (arith, less))))

last_more : (values : List Built) (b : Built) (s : ℕ) (n : List ℕ) → attribute_of (values ++ b ∷ []) s n
    ≡ cond (is_key (keys_of (values ++ b ∷ []) (length values)) s n) (Some (length values)) (attribute_of values s n)
last_more values b s n =
    let len : length (values ++ b ∷ []) ≡ suc (length values) = length-append values (b ∷ []) ∙ omega arith in
    ap (λ count. last_of (keys_of (values ++ b ∷ [])) count s n) len
    ∙ ap (λ r. cond (is_key (keys_of (values ++ b ∷ []) (length values)) s n) (Some (length values)) r)
    (last_same (keys_of values) (keys_of (values ++ b ∷ [])) (length values) s n (λ i less. key_before values b i (λ e. absurd (omega arith))))

extends : (values : List Built) (b : Built) → Extends (keys_of values) (keys_of (values ++ b ∷ []))
extends values b = λ i key e. key_before values b i (λ is. wrong i key is e) ∙ e
  where
    wrong : (i : ℕ) (key : ℕ × List ℕ) → i ≡ length values → keys_of values i ≡ Some key → ⊥
    wrong i key is e = let both : None ≡ Some key = sym (key_past values i (omega (arith, is))) ∙ e in absurd (cc)

-- ---- the index

pub index_empty : (a : Attributes) → IsConsistent (keys_of []) a → ((s : ℕ) (n : List ℕ) → found_in a (keys_of []) s n ≡ None) → IsIndex [] a
index_empty a sound none = record { sound = sound; finds = none }

-- adding a value that is not an attribute
pub index_other : (values : List Built) (b : Built) (a : Attributes) → IsIndex values a → keys_of (values ++ b ∷ []) (length values) ≡ None →
    IsIndex (values ++ b ∷ []) a
index_other values b a index none = record {
  sound = later_sound (keys_of values) (keys_of (values ++ b ∷ [])) a index.sound (extends values b);
  finds = λ s n.
      later_finds (keys_of values) (keys_of (values ++ b ∷ [])) a index.sound (extends values b) s n
      ∙ index.finds s n
      ∙ sym (last_more values b s n ∙ ap (λ k. cond (is_key k s n) (Some (length values)) (attribute_of values s n)) none);
}

-- adding a value that is inserted into the index
pub index_inserted : (values : List Built) (b : Built) (a new : Attributes) (p : ℕ) → IsIndex values a →
    keys_of (values ++ b ∷ []) (length values) ≡ Some (p, b.name) → IsInserted (keys_of values) a p b.name (length values) new →
    IsIndex (values ++ b ∷ []) new
index_inserted values b a new p index key inserted =
    let more = inserted (keys_of (values ++ b ∷ [])) (extends values b) key in
    record {
      sound = more.sound;
      finds = λ s n.
          more.finds s n
          ∙ ap (λ r. cond (is_key (Some (p, b.name)) s n) (Some (length values)) r)
          (later_finds (keys_of values) (keys_of (values ++ b ∷ [])) a index.sound (extends values b) s n ∙ index.finds s n)
          ∙ sym (last_more values b s n ∙ ap (λ k. cond (is_key k s n) (Some (length values)) (attribute_of values s n)) key);
    }
