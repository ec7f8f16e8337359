-- The places of names that may come from a `with`.
use Rattle.std.proofs.Common.{◌≡◌, ◌∙◌, ℕ, ◌<◌, ◌+◌, Bool, true, false, nat_lt, nat_le, List, [], ◌∷◌, ◌++◌, length, map, take, get_or, cond, sym, ap, refl, arith}
use Rattle.std.proofs.lemmas.{List.{map_more, Folds.list_any-append}, Bool.Decides.nat_tests}
use Rattle.std.specs.Prelude.{◌||◌, ◌&&◌, not}
use Rattle.std.specs.{List.{list_any, filter}, BTreeSet.{BTreeSet, insert_key}, BTreeMap.Range.range_contains}
use Rattle.std.specs.Ordering.{nat_cmp, match_ordering, is_le}
use Rattle.std.proofs.lemmas.Cmp.{ranked}
use Rattle.std.specs.declared.cmp.Ordering.{Ordering}
use Rattle.std.specs.declared.cmp.Ordering.TheVariants.{Less, Equal, Greater}
use Rattle.std.specs.declared.ops.Bound.TheVariants.{Included, Excluded}
use Rattle.rnix_green.specs.Range.{Extent}
use Rattle.nix_scopes.specs.declared.resolution.Reference.{Reference}
use Rattle.nix_scopes.specs.{Scopes.Resolved, Bound.resolved_of}
use Rattle.nix_lints.specs.NeedlessWith.{is_within, is_open_where, ArePlaces}

or_assoc : (a b c : Bool) → (a || (b || c)) ≡ ((a || b) || c)
or_assoc true b c = refl
or_assoc false b c = refl

or_last : (a b : Bool) → (a || b) ≡ (b || a)
or_last true true = refl
or_last true false = refl
or_last false true = refl
or_last false false = refl

or_first : (a b : Bool) → (a || b) ≡ ((a || b) || a)
or_first true b = refl
or_first false true = refl
or_first false false = refl

or_none : (a : Bool) → (a || false) ≡ a
or_none true = refl
or_none false = refl

-- one more key, which is compared with the first one
inserted : (test : ℕ → Bool) (x key : ℕ) (keys rest : List ℕ) (o : Ordering) → o ≡ nat_cmp key x → list_any test rest ≡ (list_any test keys || test key) →
    list_any test (match_ordering o (key ∷ x ∷ keys) (x ∷ keys) (x ∷ rest)) ≡ ((test x || list_any test keys) || test key)
inserted test x key keys rest Less is more = or_last (test key) (test x || list_any test keys)
inserted test x key keys rest Equal is more =
    or_first (test x) (list_any test keys) ∙ ap (λ k. (test x || list_any test keys) || test k) (sym (ranked key x Equal is))
inserted test x key keys rest Greater is more = ap (λ b. test x || b) more ∙ or_assoc (test x) (list_any test keys) (test key)

-- one more key
pub any_inserted : (test : ℕ → Bool) (keys : List ℕ) (key : ℕ) → list_any test (insert_key nat_cmp keys key) ≡ (list_any test keys || test key)
any_inserted test [] key = or_none (test key)
any_inserted test (x ∷ keys) key = inserted test x key keys (insert_key nat_cmp keys key) (nat_cmp key x) refl (any_inserted test keys key)

-- one more reference
pub places_more : (references : List Reference) (i : ℕ) (r : Reference) (old new : BTreeSet ℕ) → i < length references → r ≡ get_or references i r →
    ArePlaces (map resolved_of (take i references)) old →
    ((test : ℕ → Bool) → list_any test new.keys ≡ (list_any test old.keys || is_open_where test (resolved_of r))) →
    ArePlaces (map resolved_of (take (i + 1) references)) new
places_more references i r old new within is before added test =
    added test ∙ ap (λ b. b || is_open_where test (resolved_of r)) (before test)
    ∙ ap (λ b. list_any (is_open_where test) (map resolved_of (take i references)) || b) (sym (or_none (is_open_where test (resolved_of r))))
    ∙ sym (list_any-append (is_open_where test) (map resolved_of (take i references)) (resolved_of r ∷ []))
    ∙ ap (λ own. list_any (is_open_where test) (map resolved_of (take i references) ++ resolved_of own ∷ [])) is
    ∙ ap (list_any (is_open_where test)) (sym (map_more resolved_of references i r within))

-- a number up to another one
le_is : (a b : ℕ) (o : Ordering) → o ≡ nat_cmp a b → is_le o ≡ nat_le a b
le_is a b Less is = grind (arith, nat_tests, ranked a b Less is)
le_is a b Equal is = grind (arith, nat_tests, ranked a b Equal is)
le_is a b Greater is = grind (arith, nat_tests, ranked a b Greater is)

-- a number below another one
lt_is : (a b : ℕ) (o : Ordering) → o ≡ nat_cmp a b → not (is_le o) ≡ nat_lt b a
lt_is a b Less is = grind (arith, nat_tests, ranked a b Less is)
lt_is a b Equal is = grind (arith, nat_tests, ranked a b Equal is)
lt_is a b Greater is = grind (arith, nat_tests, ranked a b Greater is)

-- a place within a range is between its bounds
within_is : (extent : Extent) (place : ℕ) → range_contains nat_cmp (Included extent.start) (Excluded extent.end) place ≡ is_within extent place
within_is extent place =
    ap (λ b. b && not (is_le (nat_cmp extent.end place))) (le_is extent.start place (nat_cmp extent.start place) refl)
    ∙ ap (λ b. nat_le extent.start place && b) (lt_is extent.end place (nat_cmp extent.end place) refl)

-- the same test
same_any : (p q : ℕ → Bool) (xs : List ℕ) → ((x : ℕ) → p x ≡ q x) → list_any p xs ≡ list_any q xs
same_any p q [] same = refl
same_any p q (x ∷ xs) same = ap (λ b. b || list_any p xs) (same x) ∙ ap (λ b. q x || b) (same_any p q xs same)

-- whether anything passes a test
none_passes : (p : ℕ → Bool) (xs : List ℕ) → filter p xs ≡ [] → list_any p xs ≡ false
none_passes p [] is = refl
none_passes p (x ∷ xs) is = step (p x) (none_passes p xs) is where
  step : (b : Bool) → (filter p xs ≡ [] → list_any p xs ≡ false) → cond b (x ∷ filter p xs) (filter p xs) ≡ [] → (b || list_any p xs) ≡ false
  step true rest is = absurd (omega (arith, ap length is))
  step false rest is = rest is

some_passes : (p : ℕ → Bool) (xs : List ℕ) (y : ℕ) (ys : List ℕ) → filter p xs ≡ y ∷ ys → list_any p xs ≡ true
some_passes p [] y ys is = absurd (omega (arith, ap length is))
some_passes p (x ∷ xs) y ys is = step (p x) (some_passes p xs y ys) is where
  step : (b : Bool) → (filter p xs ≡ y ∷ ys → list_any p xs ≡ true) → cond b (x ∷ filter p xs) (filter p xs) ≡ y ∷ ys → (b || list_any p xs) ≡ true
  step true rest is = refl
  step false rest is = rest is

-- the places between the bounds of a range
pub none_within : (extent : Extent) (start end : ℕ) (keys : List ℕ) → start ≡ extent.start → end ≡ extent.end →
    filter (range_contains nat_cmp (Included start) (Excluded end)) keys ≡ [] → list_any (is_within extent) keys ≡ false
none_within extent start end keys same_start same_end is =
    sym (same_any (range_contains nat_cmp (Included extent.start) (Excluded extent.end)) (is_within extent) keys (within_is extent))
    ∙ none_passes _ keys (ap (λ s. filter (range_contains nat_cmp (Included s) (Excluded extent.end)) keys) (sym same_start)
    ∙ ap (λ e. filter (range_contains nat_cmp (Included start) (Excluded e)) keys) (sym same_end) ∙ is)

pub some_within : (extent : Extent) (start end : ℕ) (keys : List ℕ) (y : ℕ) (ys : List ℕ) → start ≡ extent.start → end ≡ extent.end →
    filter (range_contains nat_cmp (Included start) (Excluded end)) keys ≡ y ∷ ys → list_any (is_within extent) keys ≡ true
some_within extent start end keys y ys same_start same_end is =
    sym (same_any (range_contains nat_cmp (Included extent.start) (Excluded extent.end)) (is_within extent) keys (within_is extent))
    ∙ some_passes _ keys y ys (ap (λ s. filter (range_contains nat_cmp (Included s) (Excluded extent.end)) keys) (sym same_start)
    ∙ ap (λ e. filter (range_contains nat_cmp (Included start) (Excluded e)) keys) (sym same_end) ∙ is)
