-- What binding a name does to the maps from names.
use Rattle.std.proofs.Common.{◌≡◌, ◌∙◌, ℕ, suc, ◌+◌, ◌<◌, ◌^◌, List, Bool, true, false, Option, Some, None, refl, ap, sym, subst, arith}
use Rattle.std.proofs.lemmas.{Bool.{false≢true}, Slice.Eq.bytes_eq-Decides, Option.none-some}
use Rattle.std.specs.Prelude.{if◌then◌else◌}
use Rattle.std.specs.Str.{bytes_eq}
use Rattle.nix_scopes.specs.declared.name_maps.NameMaps.{NameMaps}
use Rattle.nix_scopes.specs.declared.trie.Tries.{Tries}
use Rattle.nix_scopes.specs.Resolving.{number_by}
use Rattle.nix_scopes.specs.BitTries.{key_bits, value_at, IsMap, IsUpdated}
use Rattle.nix_scopes.specs.NameMaps.{number_stored, number_at_key, HaveKeys, IsNameMap, IsKeyed, IsBound}
use Rattle.nix_scopes.proofs.NumberLemmas.{some_same}

-- the keys are those of other maps
have_same : (old new : NameMaps) → new.keys ≡ old.keys → new.count ≡ old.count → HaveKeys old → HaveKeys new
have_same old new keys count h = record {
  few = omega (arith, h.few, count);
  low = λ text key is. omega (arith, count, h.low text key (sym (ap (λ ks. number_by ks text) keys) ∙ is));
  one = λ a b key is also. h.one a b key (sym (ap (λ ks. number_by ks a) keys) ∙ is) (sym (ap (λ ks. number_by ks b) keys) ∙ also);
}

module _ (old mid new : NameMaps) (map : ℕ) (text : List ℕ) (number made key value : ℕ) (keyed : IsKeyed old mid text key)
    (keys : new.keys ≡ mid.keys) (count : new.count ≡ mid.count)
    (updated : IsUpdated mid.tries.branches.items new.tries.branches.items map key value made) (value_is : value ≡ suc number) where
  own_key : number_by mid.keys text ≡ Some key
  own_key = keyed.keys text ∙ ap (λ e. if e then Some key else number_by old.keys text) ((bytes_eq-Decides text text).1 refl)

  old_map : (other : ℕ) → IsMap old.tries.branches.items other → IsMap mid.tries.branches.items other
  old_map other is = subst (λ (t : Tries). IsMap t.branches.items other) (sym keyed.tries) is

  old_value : (other k : ℕ) → value_at key_bits mid.tries.branches.items other k ≡ value_at key_bits old.tries.branches.items other k
  old_value other k = ap (λ (t : Tries). value_at key_bits t.branches.items other k) keyed.tries

  high_key : HaveKeys old → key < 2 ^ key_bits
  high_key h = (let have = keyed.have h in omega (arith, have.1, have.0.few))

  kept_value : (other k : ℕ) → IsMap old.tries.branches.items other →
      value_at key_bits new.tries.branches.items other k ≡ value_at key_bits old.tries.branches.items other k
  kept_value other k is = (updated.others other (old_map other is)).1 k ∙ old_value other k

  -- a name has the number that it had in another map
  kept_number : (other : ℕ) → HaveKeys old → IsNameMap old other → (name : List ℕ) (e : Bool) (o : Option ℕ) → bytes_eq text name ≡ e
      → number_by old.keys name ≡ o → number_at_key new other (if e then Some key else o) ≡ number_at_key old other o
  kept_number other h is name false None test at = refl
  kept_number other h is name false (Some k) test at = ap number_stored (kept_value other k is.is_map)
  kept_number other h is name true None test at =
      let same : text ≡ name = (bytes_eq-Decides text name).0 test in
      let free : key ≡ old.count = keyed.known (ap (number_by old.keys) same ∙ at) in
      ap number_stored (kept_value other key is.is_map ∙ is.free key (omega (arith, free)) (high_key h))
  kept_number other h is name true (Some k) test at =
      let same : text ≡ name = (bytes_eq-Decides text name).0 test in
      ap number_stored (kept_value other key is.is_map
      ∙ ap (value_at key_bits old.tries.branches.items other) (keyed.same k (ap (number_by old.keys) same ∙ at)))

  -- the numbers in the new map
  new_number : HaveKeys old → IsNameMap old map → (name : List ℕ) (e : Bool) (o : Option ℕ) → bytes_eq text name ≡ e → number_by old.keys name ≡ o →
      number_at_key new made (if e then Some key else o) ≡ (if e then Some number else number_at_key old map o)
  new_number h is name true o test at = ap number_stored (updated.own (old_map map is.is_map) ∙ value_is)
  new_number h is name false None test at = refl
  new_number h is name false (Some k) test at =
      let own : number_by mid.keys name ≡ Some k = keyed.keys name ∙ ap (λ e. if e then Some key else number_by old.keys name) test ∙ at in
      let low : k < 2 ^ key_bits = omega (arith, h.low name k at, h.few) in
      ap number_stored (updated.rest (old_map map is.is_map) k low (high_key h)
      (λ same. false≢true (sym test ∙ (bytes_eq-Decides text name).1 ((keyed.have h).0.one text name key own_key (own ∙ ap Some same))))
      ∙ old_value map k)

  all_keys : (name : List ℕ) → number_by new.keys name ≡ (if bytes_eq text name then Some key else number_by old.keys name)
  all_keys name = ap (λ ks. number_by ks name) keys ∙ keyed.keys name

  pub bound : IsBound old new map text number made
  bound = record {
    have = λ h. have_same mid new keys count (keyed.have h).0;
    others = λ h other is. (
      record {
        is_map = (updated.others other (old_map other is.is_map)).0;
        free = λ k high low. kept_value other k is.is_map ∙ is.free k (omega (arith, high, count, keyed.more)) low;
      },
      λ name. ap (number_at_key new other) (all_keys name) ∙ kept_number other h is name (bytes_eq text name) (number_by old.keys name) refl refl,
    );
    is_map = λ h is. record {
      is_map = updated.is_map (old_map map is.is_map);
      free = λ k high low.
          updated.rest (old_map map is.is_map) k low (high_key h) (λ same. omega (arith, high, count, (keyed.have h).1, same))
          ∙ old_value map k ∙ is.free k (omega (arith, high, count, keyed.more)) low;
    };
    names = λ h is name. ap (number_at_key new made) (all_keys name) ∙ new_number h is name (bytes_eq text name) (number_by old.keys name) refl refl;
  }

-- a name that has a key keeps it
pub key_known : (maps : NameMaps) (text : List ℕ) (key : ℕ) → number_by maps.keys text ≡ Some key → IsKeyed maps maps text key
key_known maps text key is = record {
  keys = λ other. chosen other (bytes_eq text other) refl;
  known = λ none. absurd (none-some key (sym none ∙ is));
  same = λ k also. some_same key k (sym is ∙ also);
  more = omega arith;
  have = λ h. (h, h.low text key is);
  tries = refl;
}
  where
    chosen : (other : List ℕ) (e : Bool) → bytes_eq text other ≡ e → number_by maps.keys other ≡ (if e then Some key else number_by maps.keys other)
    chosen other true test = ap (number_by maps.keys) (sym ((bytes_eq-Decides text other).0 test)) ∙ is
    chosen other false test = refl

-- a name that has no key gets the next one
pub key_added : (old new : NameMaps) (text : List ℕ) (key : ℕ) → key ≡ old.count → key < 2 ^ key_bits → new.count ≡ key + 1 → new.tries ≡ old.tries →
    number_by old.keys text ≡ None →
    ((other : List ℕ) → number_by new.keys other ≡ (if bytes_eq text other then Some key else number_by old.keys other)) → IsKeyed old new text key
key_added old new text key is few count tries none keys = record {
  keys = keys;
  known = λ _. is;
  same = λ k some. absurd (none-some k (sym none ∙ some));
  more = omega (arith, is, count);
  have = λ h. (
    record {
      few = omega (arith, count, few);
      low = λ name k at. low h name k (bytes_eq text name) refl (sym (keys name) ∙ at);
      one = λ a b k first second. one h a b k (bytes_eq text a) (bytes_eq text b) refl refl (sym (keys a) ∙ first) (sym (keys b) ∙ second);
    },
    omega (arith, count),
  );
  tries = tries;
}
  where
    low : HaveKeys old → (name : List ℕ) (k : ℕ) (e : Bool) → bytes_eq text name ≡ e
        → (if e then Some key else number_by old.keys name) ≡ Some k → k < new.count
    low h name k true test at = omega (arith, some_same key k at, count)
    low h name k false test at = omega (arith, h.low name k at, is, count)

    one : HaveKeys old → (a b : List ℕ) (k : ℕ) (d e : Bool) → bytes_eq text a ≡ d → bytes_eq text b ≡ e →
        (if d then Some key else number_by old.keys a) ≡ Some k → (if e then Some key else number_by old.keys b) ≡ Some k → a ≡ b
    one h a b k true true left right first second = sym ((bytes_eq-Decides text a).0 left) ∙ (bytes_eq-Decides text b).0 right
    one h a b k true false left right first second = absurd (omega (arith, some_same key k first, h.low b k second, is))
    one h a b k false true left right first second = absurd (omega (arith, some_same key k second, h.low a k first, is))
    one h a b k false false left right first second = h.one a b k first second
