-- What comes into scope when a scope is entered, and goes out of scope when it is left.
use Rattle.std.proofs.Common.{◌≡◌, ℕ, ◌+◌, ◌<◌, ◌≤◌, List, [], ◌∷◌, ◌++◌, length, Bool, true, false, Option, Some, None, refl, ap, sym, ◌∙◌, inl, inr}
use Rattle.std.proofs.{Common.{arith}, lemmas.{List.{length_push, get_or_append_left, Elements.{All-head, All-tail}}, Bool.{cond-true, cond-false, le-leb, lt-leb, cases_lt}}}
use Rattle.std.proofs.{Math.Seq.get_or-append_seam, lemmas.{Option.{none-some, slice_get_within}, Slice.Eq.bytes_eq-Decides}}
use Rattle.std.specs.{Prelude.{nat_le, ◌⊎◌, if◌then◌else◌, slice_get, is_some, IsSome}, List.All, Option.option_or, Str.bytes_eq}
use Rattle.{rnix_green.specs.Tree.Located, nix_scopes.specs.Scopes.{Bound, number_in, innermost}}
use Rattle.nix_scopes.specs.Resolving.{Numbers, number_by, shadowed_by, outside_of, own_of, IsLonger, IsOpen, IsBinding, IsShadowed, IsRestored, AreOpen}
use Rattle.{nix_scopes.specs.declared.symbols.Scope.Scope, std.proofs.Common.length-append}
use Rattle.nix_scopes.proofs.NumberLemmas.{or_none, some_same, none_below, number_kept, number_bound, get_kept, get_pushed, number_binds}

-- `IsLonger` is reflexive
pub longer_same : (shadowed : List (Option ℕ)) → IsLonger shadowed shadowed
longer_same shadowed = record { longer = omega arith; same = λ n l. refl }

-- `IsLonger` is transitive
pub longer_twice : (a b c : List (Option ℕ)) → IsLonger a b → IsLonger b c → IsLonger a c
longer_twice a b c first second = record {
  longer = omega (arith, first.longer, second.longer);
  same = λ n l. second.same n (omega (arith, l, first.longer)) ∙ first.same n l;
}

-- the number that a name has in a scope is that of a binding
number_low : (bindings : List Bound) (text : List ℕ) (scope : Located) (n : ℕ) → number_in bindings text scope ≡ Some n → n < length bindings
number_low bindings text scope n e = (let found = number_binds bindings text scope n e in slice_get_within bindings n found.binding found.at)

-- so is the number of its innermost binding
pub innermost_low : (bindings : List Bound) (text : List ℕ) (scopes : List Located) (n : ℕ) → innermost bindings text scopes ≡ Some n → n < length bindings
innermost_low bindings text [] n e = absurd (none-some n e)
innermost_low bindings text (scope ∷ outer) n e =
    chosen (number_in bindings text scope) (λ m is. number_low bindings text scope m is) (λ m is. innermost_low bindings text outer m is) e
  where
    chosen : (o : Option ℕ) → ((m : ℕ) → o ≡ Some m → m < length bindings) → ((m : ℕ) → innermost bindings text outer ≡ Some m → m < length bindings) →
        option_or o (innermost bindings text outer) ≡ Some n → n < length bindings
    chosen None own more e = more n e
    chosen (Some m) own more e = own n e

-- adding bindings of scopes with higher numbers does not change the innermost bindings
pub innermost_kept : (bindings more : List Bound) (text : List ℕ) (n : ℕ) (scopes : List Located) → All (λ (scope : Located). scope.number < n) scopes →
    All (λ (b : Bound). n ≤ b.scope.number) more → innermost (bindings ++ more) text scopes ≡ innermost bindings text scopes
innermost_kept bindings more text n [] below all = refl
innermost_kept bindings more text n (scope ∷ outer) below all =
    let low : scope.number < n = All-head (λ (scope : Located). scope.number < n) scope outer below in
    ap (λ o. option_or o (innermost (bindings ++ more) text outer)) (number_kept bindings more text scope (λ k d l. omega (arith, low, all k d l)))
    ∙ ap (option_or (number_in bindings text scope))
    (innermost_kept bindings more text n outer (All-tail (λ (scope : Located). scope.number < n) scope outer below) all)

-- adding such bindings does not change an open scope
open_kept : (outer others : List ℕ → Option ℕ) (bindings more : List Bound) (shadowed shown : List (Option ℕ)) (first end : ℕ) (scope : Located) →
    ((text : List ℕ) → others text ≡ outer text) → All (λ (b : Bound). scope.number < b.scope.number) more → IsLonger shadowed shown →
    IsOpen outer bindings shadowed first end scope → IsOpen others (bindings ++ more) shown first end scope
open_kept outer others bindings more shadowed shown first end scope same all longer h = record {
  bounds = (h.bounds.0, omega (arith, h.bounds.1, length-append bindings more), omega (arith, h.bounds.2, longer.longer));
  before = λ text n is. h.before text n (sym (same text) ∙ is);
  inside = λ text n is. h.inside text n (sym (number_kept bindings more text scope all) ∙ is);
  own = λ n b low high at. h.own n b low high (kept n b high at);
  shadows = λ n b low high at. longer.same n (omega (arith, high, h.bounds.2)) ∙ h.shadows n b low high (kept n b high at) ∙ sym (same b.text);
}
  where
    kept : (n : ℕ) (b : Bound) → n < end → slice_get (bindings ++ more) n ≡ Some b → slice_get bindings n ≡ Some b
    kept n b high at = sym (get_kept bindings more n (omega (arith, high, h.bounds.1))) ∙ at

-- nor does it change any of the open scopes
pub all_kept : (bindings more : List Bound) (shadowed shown : List (Option ℕ)) (n : ℕ) (owns : List Scope) (scopes : List Located) →
    All (λ (scope : Located). scope.number < n) scopes → All (λ (b : Bound). n ≤ b.scope.number) more → IsLonger shadowed shown →
    AreOpen bindings shadowed owns scopes → AreOpen (bindings ++ more) shown owns scopes
all_kept bindings more shadowed shown n owns [] below all longer h = h
all_kept bindings more shadowed shown n owns (scope ∷ outer) below all longer h =
    let low : scope.number < n = All-head (λ (scope : Located). scope.number < n) scope outer below in
    let rest : All (λ (scope : Located). scope.number < n) outer = All-tail (λ (scope : Located). scope.number < n) scope outer below in (
      h.0,
      h.1,
      h.2,
      open_kept (λ text. innermost bindings text outer) (λ text. innermost (bindings ++ more) text outer) bindings more shadowed shown h.0.first h.0.end scope
          (λ text. innermost_kept bindings more text n outer rest all) (λ k d l. omega (arith, low, all k d l)) longer h.3,
      all_kept bindings more shadowed shown n h.1 outer rest all longer h.4,
    )

-- a scope that is entered has bound nothing yet
pub binding_begun : (outer : List ℕ → Option ℕ) (bindings : List Bound) (numbers : Numbers) (shadowed : List (Option ℕ)) (scope : Located) →
    All (λ (b : Bound). b.scope.number < scope.number) bindings → ((text : List ℕ) → number_by numbers text ≡ outer text) →
    ((text : List ℕ) (n : ℕ) → outer text ≡ Some n → n < length bindings) → length shadowed ≡ length bindings →
    IsBinding outer bindings numbers shadowed (length bindings) scope
binding_begun outer bindings numbers shadowed scope all seen before count = record {
  names_in_scope = λ text. seen text ∙ sym (ap (λ o. option_or o (outer text)) (none_below bindings text scope all));
  count = count;
  is_open = record {
    bounds = (omega arith, omega arith, omega (arith, count));
    before = before;
    inside = λ text n is. absurd (none-some n (sym (none_below bindings text scope all) ∙ is));
    own = λ n b low high at. absurd (omega (arith, low, high));
    shadows = λ n b low high at. absurd (omega (arith, low, high));
  };
}

module _ (outer : List ℕ → Option ℕ) (bindings : List Bound) (old new : Numbers) (shadowed : List (Option ℕ)) (first : ℕ) (scope : Located)
    (b : Bound) (same : b.scope.number ≡ scope.number) (h : IsBinding outer bindings old shadowed first scope) where
  -- the numbers that a name has when it is bound: in the scope, and outside it
  record Given (o : Option ℕ) : Type 0 where
    own : option_or o (Some (length bindings)) ≡ Some (own_of (option_or o (outer b.text)) first (length bindings))
    outside : outside_of (option_or o (outer b.text)) first shadowed ≡ outer b.text

  given_outside : (o : Option ℕ) → ((n : ℕ) → o ≡ Some n → n < first) → (own_of o first (length bindings) ≡ length bindings) × (outside_of o first shadowed ≡ o)
  given_outside None low = (refl, refl)
  given_outside (Some n) low =
      let test : nat_le first n ≡ false = lt-leb first n (low n refl) in
      (cond-false (nat_le first n) n (length bindings) test, cond-false (nat_le first n) (shadowed_by shadowed n) (Some n) test)

  given : (o : Option ℕ) → number_in bindings b.text scope ≡ o → Given o
  given None is =
      let none = given_outside (outer b.text) (h.is_open.before b.text) in
      record { own = ap Some (sym none.0); outside = none.1 }
  given (Some n) is =
      let inside = h.is_open.inside b.text n is in
      let test : nat_le first n ≡ true = le-leb first n inside.0 in
      let found = number_binds bindings b.text scope n is in
      record {
        own = ap Some (sym (cond-true (nat_le first n) n (length bindings) test));
        outside =
            cond-true (nat_le first n) (shadowed_by shadowed n) (Some n) test ∙ h.is_open.shadows n found.binding inside.0 inside.1 found.at
            ∙ ap outer ((bytes_eq-Decides found.binding.text b.text).0 found.named);
      }

  -- the numbers after a name is bound: that of the name, and those of the others
  in_scope_more : (own : ℕ) → (text : List ℕ) (o : Option ℕ) (e : Bool) → bytes_eq b.text text ≡ e → number_in bindings text scope ≡ o →
      own ≡ own_of (number_by old b.text) first (length bindings) →
      (if e then Some own else number_by old text) ≡ option_or (option_or o (if e then Some (length bindings) else None)) (outer text)
  in_scope_more own text o false e is given_own =
      h.names_in_scope text ∙ ap (λ n. option_or n (outer text)) (is ∙ sym (or_none o))
  in_scope_more own text o true e is given_own =
      let name : b.text ≡ text = (bytes_eq-Decides b.text text).0 e in
      let here : number_in bindings b.text scope ≡ o = ap (λ t. number_in bindings t scope) name ∙ is in
      let seen : number_by old b.text ≡ option_or o (outer b.text) = h.names_in_scope b.text ∙ ap (λ n. option_or n (outer b.text)) here in
      ap Some (given_own ∙ ap (λ n. own_of n first (length bindings)) seen) ∙ sym (given o here).own
      ∙ sym (or_any o (length bindings) (outer text))
    where
      or_any : (o : Option ℕ) (n : ℕ) (p : Option ℕ) → option_or (option_or o (Some n)) p ≡ option_or o (Some n)
      or_any None n p = refl
      or_any (Some m) n p = refl

  -- the bound name has its number in the scope
  pub number_own : (own : ℕ) → own ≡ own_of (number_by old b.text) first (length bindings) → number_in (bindings ++ b ∷ []) b.text scope ≡ Some own
  number_own own given_own =
      let o : Option ℕ = number_in bindings b.text scope in
      number_bound bindings b.text scope b same
      ∙ ap (λ e. option_or o (if e then Some (length bindings) else None)) ((bytes_eq-Decides b.text b.text).1 refl)
      ∙ (given o refl).own ∙ sym (ap Some (given_own ∙ ap (λ n. own_of n first (length bindings)) (h.names_in_scope b.text)))

  -- the scope binds one more name
  pub binding_more : (own : ℕ) → own ≡ own_of (number_by old b.text) first (length bindings) →
      ((text : List ℕ) → number_by new text ≡ (if bytes_eq b.text text then Some own else number_by old text)) →
      IsBinding outer (bindings ++ b ∷ []) new (shadowed ++ outside_of (number_by old b.text) first shadowed ∷ []) first scope
  binding_more own given_own added = record {
    names_in_scope = λ text.
        added text ∙ in_scope_more own text (number_in bindings text scope) (bytes_eq b.text text) refl refl given_own
        ∙ sym (ap (λ o. option_or o (outer text)) (number_bound bindings text scope b same));
    count = length_push shadowed _ ∙ ap (λ n. n + 1) h.count ∙ sym (length_push bindings b);
    is_open = record {
      bounds = (
        omega (arith, h.is_open.bounds.0, length_push bindings b),
        omega arith,
        omega (arith, length_push bindings b, length_push shadowed (outside_of (number_by old b.text) first shadowed), h.count),
      );
      before = h.is_open.before;
      inside = λ text n is.
          inside_more text n (number_in bindings text scope) (bytes_eq b.text text) refl (sym (number_bound bindings text scope b same) ∙ is);
      own = λ n x low high at. owned n x low (get_pushed bindings b x n at);
      shadows = λ n x low high at. shadowed_more n x low (get_pushed bindings b x n at);
    };
  }
    where
      inside_more : (text : List ℕ) (n : ℕ) (o : Option ℕ) (e : Bool) → number_in bindings text scope ≡ o →
          option_or o (if e then Some (length bindings) else None) ≡ Some n → (first ≤ n) × (n < length (bindings ++ b ∷ []))
      inside_more text n (Some m) e here is =
          let inside = h.is_open.inside text n (here ∙ is) in
          (inside.0, omega (arith, inside.1, length_push bindings b))
      inside_more text n None true here is =
          let number : length bindings ≡ n = some_same _ _ is in
          (omega (arith, number, h.is_open.bounds.0), omega (arith, number, length_push bindings b))
      inside_more text n None false here is = absurd (none-some n is)

      owned : (n : ℕ) (x : Bound) → first ≤ n → ((n ≡ length bindings) × (b ≡ x)) ⊎ ((n < length bindings) × (slice_get bindings n ≡ Some x)) →
          x.scope.number ≡ scope.number
      owned n x low (inl last) = ap (λ (c : Bound). c.scope.number) (sym last.1) ∙ same
      owned n x low (inr was) = h.is_open.own n x low was.0 was.1

      shadowed_more : (n : ℕ) (x : Bound) → first ≤ n → ((n ≡ length bindings) × (b ≡ x)) ⊎ ((n < length bindings) × (slice_get bindings n ≡ Some x)) →
          shadowed_by (shadowed ++ outside_of (number_by old b.text) first shadowed ∷ []) n ≡ outer x.text
      shadowed_more n x low (inl last) =
          ap (shadowed_by (shadowed ++ outside_of (number_by old b.text) first shadowed ∷ [])) (last.0 ∙ sym h.count)
          ∙ get_or-append_seam shadowed (outside_of (number_by old b.text) first shadowed) [] None
          ∙ ap (λ o. outside_of o first shadowed) (h.names_in_scope b.text)
          ∙ (given (number_in bindings b.text scope) refl).outside ∙ ap (λ (c : Bound). outer c.text) last.1
      shadowed_more n x low (inr was) =
          get_or_append_left shadowed (outside_of (number_by old b.text) first shadowed ∷ []) None n (omega (arith, was.0, h.count))
          ∙ h.is_open.shadows n x low was.0 was.1

-- what is restored for more bindings is restored for fewer
pub shown_fewer : (outer : List ℕ → Option ℕ) (bindings : List Bound) (first end number : ℕ) (old new : Numbers) (text : List ℕ) →
    end ≤ number → IsRestored outer bindings first number old new text → IsRestored outer bindings first end old new text
shown_fewer outer bindings first end number old new text less (inl shown) = inl shown
shown_fewer outer bindings first end number old new text less (inr kept) = inr (kept.0, λ n b low high at. kept.1 n b low (omega (arith, high, less)) at)

module _ (outer : List ℕ → Option ℕ) (bindings : List Bound) (old now new : Numbers) (shadowed : List (Option ℕ)) (own : Scope) (number : ℕ)
    (so_far : (text : List ℕ) → IsRestored outer bindings own.first number old now text) where
  -- a number without a binding restores nothing
  shown_none : slice_get bindings number ≡ None → (text : List ℕ) → number_by new text ≡ number_by now text →
      IsRestored outer bindings own.first (number + 1) old new text
  shown_none none text same = elim (so_far text) [
    | inl shown ↦ inl (same ∙ shown)
    | inr kept ↦ inr (
      same ∙ kept.0,
      λ n b low high at. elim (cases_lt n number) [
        | inl less ↦ kept.1 n b low less at
        | inr more ↦
            let last : n ≡ number = omega (arith, high, more) in
            absurd (none-some b (sym none ∙ ap (slice_get bindings) (sym last) ∙ at))
      ],
    )
  ]

  -- restoring what one more binding shadowed
  shown_binding : (b : Bound) → IsShadowed outer bindings old shadowed own → own.first ≤ number → number < own.end → slice_get bindings number ≡ Some b →
      ((IsSome (shadowed_by shadowed number) → IsSome (number_by now b.text)) → (text : List ℕ) →
      number_by new text ≡ (if bytes_eq b.text text then shadowed_by shadowed number else number_by now text)) →
      (text : List ℕ) → IsRestored outer bindings own.first (number + 1) old new text
  shown_binding b h low high at shown text = chosen (bytes_eq b.text text) refl (shown there text) (so_far text)
    where
      shadows : shadowed_by shadowed number ≡ outer b.text
      shadows = h.shadows number b low high at

      there : IsSome (shadowed_by shadowed number) → IsSome (number_by now b.text)
      there some = elim (so_far b.text) [
        | inl out ↦ ap is_some (out ∙ sym shadows) ∙ some
        | inr kept ↦ ap is_some kept.0 ∙ h.names_in_scope number b low high at
      ]

      chosen : (e : Bool) → bytes_eq b.text text ≡ e → number_by new text ≡ (if e then shadowed_by shadowed number else number_by now text) →
          IsRestored outer bindings own.first number old now text → IsRestored outer bindings own.first (number + 1) old new text
      chosen true e is was = inl (is ∙ shadows ∙ ap outer ((bytes_eq-Decides b.text text).0 e))
      chosen false e is (inl out) = inl (is ∙ out)
      chosen false e is (inr kept) = inr (
        is ∙ kept.0,
        λ n x l m found. elim (cases_lt n number) [
          | inl less ↦ kept.1 n x l less found
          | inr more ↦
              let same : n ≡ number = omega (arith, m, more) in
              let one : b ≡ x = some_same b x (sym at ∙ ap (slice_get bindings) (sym same) ∙ found) in
              ap (λ (y : Bound). bytes_eq y.text text) (sym one) ∙ e
        ],
      )

  -- restoring what one more number shadowed
  pub shown_more : IsShadowed outer bindings old shadowed own → own.first ≤ number → number < own.end →
      ((b : Bound) → slice_get bindings number ≡ Some b → (IsSome (shadowed_by shadowed number) → IsSome (number_by now b.text)) → (text : List ℕ) →
      number_by new text ≡ (if bytes_eq b.text text then shadowed_by shadowed number else number_by now text)) →
      (slice_get bindings number ≡ None → (text : List ℕ) → number_by new text ≡ number_by now text) →
      (text : List ℕ) → IsRestored outer bindings own.first (number + 1) old new text
  shown_more h low high shown same text = chosen (slice_get bindings number) refl
    where
      chosen : (o : Option Bound) → slice_get bindings number ≡ o → IsRestored outer bindings own.first (number + 1) old new text
      chosen None none = shown_none none text (same none text)
      chosen (Some b) at = shown_binding b h low high at (shown b at) text
