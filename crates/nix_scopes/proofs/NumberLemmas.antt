-- The numbers of bindings, and what adding bindings does to them.
use Rattle.std.proofs.Common.{◌≡◌, ℕ, zero, suc, ◌+◌, ◌<◌, List, [], ◌∷◌, ◌++◌, length, Bool, true, false, Option, Some, None, refl, ap, sym, ◌∙◌, inl, inr}
use Rattle.std.proofs.{Common.{arith, ◌==◌}, lemmas.{List.Elements.{All-head, All-tail}, Bool.{cond-true, cond-false, and_left, false≢true, Decides.nat_tests}}}
use Rattle.std.proofs.lemmas.{Option.none-some, Slice.Eq.bytes_eq-Decides}
use Rattle.std.specs.{Prelude.{cond, ◌&&◌, ◌⊎◌, if◌then◌else◌, slice_get, is_some, IsSome}, List.{All, position_from}, Option.{option_or, unwrap_or}}
use Rattle.std.{proofs.{Math.Bool.and-false, lemmas.Map.Text.is_eq-slice_cmp}, specs.{Str.bytes_eq, Ordering.{is_eq, nat_cmp, ordering_then}}}
use Rattle.std.specs.{Cmp.{tied_then, unsigned_tied}, Cmp.Lexicographic.slice_cmp, declared.cmp.Ordering.Ordering}
use Rattle.{rnix_green.{specs.Tree.Located, proofs.NumberTests.{is_same, is_above}}, nix_scopes.specs.Scopes.{Bound, binds, number_in}}
use Rattle.nix_scopes.specs.Resolving.{Key, IsKeyOf, Numbers, compare_key, fingerprint_of, number_by}
use Rattle.std.specs.BTreeMap.{get_by}
use Rattle.nix_scopes.specs.NameTexts.{name_bytes}
use Rattle.nix_scopes.specs.declared.name_text.NameText.TheVariants.{Borrowed}

-- `None` as the alternative changes nothing
pub or_none : (o : Option ℕ) → option_or o None ≡ o
or_none None = refl
or_none (Some n) = refl

-- assigning a number to a name, as `cond` and as `if`
pub assigned_once : (b : Bool) (number old new : Option ℕ) → new ≡ cond b number old → new ≡ (if b then number else old)
assigned_once true number old new is = is
assigned_once false number old new is = is

-- a name that is assigned two numbers has the second
pub assigned_twice : (b : Bool) (first second old new once : Option ℕ) → new ≡ cond b second once → once ≡ cond b first old → new ≡ (if b then second else old)
assigned_twice true first second old new once is was = is
assigned_twice false first second old new once is was = is ∙ was

-- a key with the given name
abbrev pub key_with : List ℕ → Key
key_with text = (fingerprint_of text, Borrowed record { ref_ptr = (0, 0); now = text })

-- two keys are equal exactly if their names are
same_key : (a b : List ℕ) → is_eq (compare_key a (key_with b)) ≡ bytes_eq a b
same_key a b =
    sym (tied_then (nat_cmp (fingerprint_of a) (fingerprint_of b)) (slice_cmp nat_cmp a b))
    ∙ ap (λ e. is_eq (nat_cmp (fingerprint_of a) (fingerprint_of b)) && e) (is_eq-slice_cmp a b) ∙ chosen (bytes_eq a b) refl
  where
    chosen : (e : Bool) → bytes_eq a b ≡ e → (is_eq (nat_cmp (fingerprint_of a) (fingerprint_of b)) && e) ≡ e
    chosen false is = and-false (is_eq (nat_cmp (fingerprint_of a) (fingerprint_of b)))
    chosen true is =
        let marks : fingerprint_of a ≡ fingerprint_of b = ap fingerprint_of ((bytes_eq-Decides a b).0 is) in
        ap (λ e. e && true) (unsigned_tied (fingerprint_of a) (fingerprint_of b) ∙ is_same (fingerprint_of a) (fingerprint_of b) marks)

-- the order of two keys
abbrev compare_keys : Key → Key → Ordering
compare_keys a b = ordering_then (nat_cmp a.0 b.0) (slice_cmp nat_cmp (name_bytes a.1) (name_bytes b.1))

-- updating a key changes the number of its name and of no other
pub key_updated : (key : Key) (text : List ℕ) (number : Option ℕ) (old new : Key → Option ℕ) → IsKeyOf text key →
    ((query : Key) → new query ≡ cond (is_eq (compare_keys key query)) number (old query)) → (other : List ℕ) →
    new (key_with other) ≡ cond (bytes_eq text other) number (old (key_with other))
key_updated key text number old new is updates other =
    let was : Option ℕ = old (key_with other) in
    updates (key_with other)
    ∙ ap (λ fingerprint. cond (is_eq (ordering_then (nat_cmp fingerprint (fingerprint_of other)) (slice_cmp nat_cmp (name_bytes key.1) other))) number was) is.0
    ∙ ap (λ bytes. cond (is_eq (ordering_then (nat_cmp (fingerprint_of text) (fingerprint_of other)) (slice_cmp nat_cmp bytes other))) number was) is.1
    ∙ ap (λ e. cond e number was) (same_key text other)

-- the number stored at a key of a name is the name's number
pub number_at : (numbers : Numbers) (key : Key) (text : List ℕ) → IsKeyOf text key → get_by (compare_keys key) numbers ≡ number_by numbers text
number_at numbers key text is =
    ap (λ fingerprint. get_by (λ (k : Key). ordering_then (nat_cmp fingerprint k.0) (slice_cmp nat_cmp (name_bytes key.1) (name_bytes k.1))) numbers) is.0
    ∙ ap (λ bytes. get_by (λ (k : Key). ordering_then (nat_cmp (fingerprint_of text) k.0) (slice_cmp nat_cmp bytes (name_bytes k.1))) numbers) is.1

-- the first position in a concatenation is that in the first list, or else that in the second
position-append : {X : Type 0} (p : X → Bool) (i j : ℕ) (xs ys : List X) → j ≡ i + length xs →
    position_from p i (xs ++ ys) ≡ option_or (position_from p i xs) (position_from p j ys)
position-append p i j [] ys is = (let same : i ≡ j = omega (arith, is) in ap (λ k. position_from p k ys) same)
position-append p i j (x ∷ xs) ys is = chosen (p x) _ _ _ (position-append p (i + 1) j xs ys (omega (arith, is)))
  where
    chosen : (b : Bool) (a c d : Option ℕ) → a ≡ option_or c d → cond b (Some i) a ≡ option_or (cond b (Some i) c) d
    chosen true a c d e = refl
    chosen false a c d e = e

-- if no element passes, there is no position
position_none : {X : Type 0} (p : X → Bool) (i : ℕ) (xs : List X) → All (λ x. p x ≡ false) xs → position_from p i xs ≡ None
position_none p i [] all = refl
position_none p i (x ∷ xs) all =
    cond-false (p x) (Some i) (position_from p (i + 1) xs) (All-head (λ x. p x ≡ false) x xs all)
    ∙ position_none p (i + 1) xs (All-tail (λ x. p x ≡ false) x xs all)

-- a scope binds no name yet if all bindings belong to scopes with lower numbers
pub none_below : (bindings : List Bound) (text : List ℕ) (scope : Located) → All (λ (b : Bound). b.scope.number < scope.number) bindings →
    number_in bindings text scope ≡ None
none_below bindings text scope all =
    position_none (binds scope text) 0 bindings (λ k d l. and_left _ _ (lower _ _ (all k d l)))
  where
    lower : (a b : ℕ) → a < b → (a == b) ≡ false
    lower a b l = grind (arith, nat_tests)

-- adding bindings of scopes with higher numbers does not change a name's number
pub number_kept : (bindings more : List Bound) (text : List ℕ) (scope : Located) → All (λ (b : Bound). scope.number < b.scope.number) more →
    number_in (bindings ++ more) text scope ≡ number_in bindings text scope
number_kept bindings more text scope all =
    position-append (binds scope text) 0 (length bindings) bindings more (omega arith)
    ∙ ap (option_or (number_in bindings text scope))
    (position_none (binds scope text) (length bindings) more (λ k d l. and_left _ _ (is_above _ _ (all k d l))))
    ∙ or_none (number_in bindings text scope)

-- adding a binding of the scope gives its name a number, if the name has none yet
pub number_bound : (bindings : List Bound) (text : List ℕ) (scope : Located) (b : Bound) → b.scope.number ≡ scope.number →
    number_in (bindings ++ b ∷ []) text scope ≡ option_or (number_in bindings text scope) (if bytes_eq b.text text then Some (length bindings) else None)
number_bound bindings text scope b same =
    position-append (binds scope text) 0 (length bindings) bindings (b ∷ []) (omega arith)
    ∙ ap (λ test. option_or (number_in bindings text scope) (cond (test && bytes_eq b.text text) (Some (length bindings)) None))
    (is_same b.scope.number scope.number same)
    ∙ ap (option_or (number_in bindings text scope)) (chosen (bytes_eq b.text text))
  where
    chosen : (b : Bool) → cond b (Some (length bindings)) None ≡ (if b then Some (length bindings) else None)
    chosen true = refl
    chosen false = refl

-- adding bindings does not change a number that a name has
pub number_stays : (bindings more : List Bound) (text : List ℕ) (scope : Located) (n : ℕ) → number_in bindings text scope ≡ Some n →
    number_in (bindings ++ more) text scope ≡ Some n
number_stays bindings more text scope n is =
    position-append (binds scope text) 0 (length bindings) bindings more (omega arith)
    ∙ ap (λ o. option_or o (position_from (binds scope text) (length bindings) more)) is

-- `Some` is injective
pub some_same : {X : Type 0} (x y : X) → Some x ≡ Some y → x ≡ y
some_same x y e = ap (λ o. unwrap_or o x) e

-- appending elements does not change the earlier ones
pub get_kept : {X : Type 0} (xs ys : List X) (n : ℕ) → n < length xs → slice_get (xs ++ ys) n ≡ slice_get xs n
get_kept [] ys n l = absurd (omega (arith, l))
get_kept (x ∷ xs) ys zero l = refl
get_kept (x ∷ xs) ys (suc n) l = get_kept xs ys n (omega (arith, l))

-- the last element is the added one
pub get_last : {X : Type 0} (xs : List X) (x : X) → slice_get (xs ++ x ∷ []) (length xs) ≡ Some x
get_last [] x = refl
get_last (y ∷ xs) x = get_last xs x

-- an element is the added one, or was in the list before
pub get_pushed : {X : Type 0} (xs : List X) (x y : X) (n : ℕ) → slice_get (xs ++ x ∷ []) n ≡ Some y →
    ((n ≡ length xs) × (x ≡ y)) ⊎ ((n < length xs) × (slice_get xs n ≡ Some y))
get_pushed [] x y zero e = inl (refl, some_same x y e)
get_pushed [] x y (suc n) e = absurd (none-some y e)
get_pushed (z ∷ xs) x y zero e = inr (omega arith, e)
get_pushed (z ∷ xs) x y (suc n) e = elim (get_pushed xs x y n e) [
  | inl same ↦ inl (omega (arith, same.0), same.1)
  | inr old ↦ inr (omega (arith, old.0), old.1)
]

-- the element at an index that a search found, which passes the test
pub record FoundAt {X : Type 0} (p : X → Bool) (i : ℕ) (xs : List X) (n : ℕ) : Type 0 where
  pub index : ℕ
  pub is : n ≡ i + index
  pub element : X
  pub at : slice_get xs index ≡ Some element
  pub passes : p element ≡ true

position_found : {X : Type 0} (p : X → Bool) (i : ℕ) (xs : List X) (n : ℕ) → position_from p i xs ≡ Some n → FoundAt p i xs n
position_found p i [] n e = absurd (none-some n e)
position_found {X} p i (x ∷ xs) n e = chosen (p x) refl e (position_found p (i + 1) xs n)
  where
    chosen : (b : Bool) → p x ≡ b → cond b (Some i) (position_from p (i + 1) xs) ≡ Some n → (position_from p (i + 1) xs ≡ Some n → FoundAt p (i + 1) xs n) →
        FoundAt p i (x ∷ xs) n
    chosen true passes e more = record { index = 0; is = omega (arith, some_same i n e); element = x; at = refl; passes = passes }
    chosen false passes e more =
        let found = more e in
        record { index = suc found.index; is = omega (arith, found.is); element = found.element; at = found.at; passes = found.passes }

-- if an element passes, the search finds it or an earlier one
position_there : {X : Type 0} (p : X → Bool) (i : ℕ) (xs : List X) (n : ℕ) (x : X) → slice_get xs n ≡ Some x → p x ≡ true → IsSome (position_from p i xs)
position_there p i [] n x at passes = absurd (none-some x at)
position_there p i (y ∷ xs) zero x at passes =
    ap is_some (cond-true (p y) (Some i) (position_from p (i + 1) xs) (ap p (some_same y x at) ∙ passes))
position_there p i (y ∷ xs) (suc n) x at passes = chosen (p y) (position_there p (i + 1) xs n x at passes)
  where
    chosen : (b : Bool) → IsSome (position_from p (i + 1) xs) → IsSome (cond b (Some i) (position_from p (i + 1) xs))
    chosen true more = refl
    chosen false more = more

-- the binding at a number is one of the name in the scope
pub record BindsAt (bindings : List Bound) (text : List ℕ) (scope : Located) (n : ℕ) : Type 0 where
  pub binding : Bound
  pub at : slice_get bindings n ≡ Some binding
  pub scoped : binding.scope.number ≡ scope.number
  pub named : bytes_eq binding.text text ≡ true

-- the number that a name has in a scope is that of a binding of the name there
pub number_binds : (bindings : List Bound) (text : List ℕ) (scope : Located) (n : ℕ) → number_in bindings text scope ≡ Some n →
    BindsAt bindings text scope n
number_binds bindings text scope n e =
    let found = position_found (binds scope text) 0 bindings n e in
    let index : found.index ≡ n = omega (arith, found.is) in
    record {
      binding = found.element;
      at = ap (slice_get bindings) (sym index) ∙ found.at;
      scoped = same _ _ (first_true _ _ found.passes);
      named = second_true _ _ found.passes;
    }
  where
    same : (a b : ℕ) → (a == b) ≡ true → a ≡ b
    same a b e = grind (arith, nat_tests)

    first_true : (a b : Bool) → (a && b) ≡ true → a ≡ true
    first_true true b e = refl
    first_true false b e = e

    second_true : (a b : Bool) → (a && b) ≡ true → b ≡ true
    second_true true b e = e
    second_true false b e = absurd (false≢true e)

-- a name that is bound in a scope has a number there
pub number_there : (bindings : List Bound) (scope : Located) (n : ℕ) (b : Bound) → slice_get bindings n ≡ Some b → b.scope.number ≡ scope.number →
    IsSome (number_in bindings b.text scope)
number_there bindings scope n b at same =
    position_there (binds scope b.text) 0 bindings n b at
    (ap (λ test. test && bytes_eq b.text b.text) (is_same b.scope.number scope.number same) ∙ (bytes_eq-Decides b.text b.text).1 refl)
