-- Where a scheme ends: its bytes are the path characters except `/` and `_`.
use Rattle.std.proofs.{Common.{◌≡◌, ◌==◌, ℕ, suc, ◌+◌, Bool, true, false, not, List, [], ◌∷◌, refl, arith, get_or}, lemmas.Bool.Decides.nat_tests}
use Rattle.{std.specs.List.prefix_len, rnix_kinds.specs.{declared.tokenizer.text.Class.TheVariants.{Step, Scheme}, Lexical.Classes.class_test}}
use Rattle.rnix_kinds.specs.Lexical.Longest.{IsScheme}

abbrev is_no_underscore : ℕ → Bool
is_no_underscore b = not (b == 95)

abbrev IsSchemeEnd : List ℕ → Type 0
IsSchemeEnd text = get_or text (prefix_len (class_test Scheme) text) 0 ≡ 58

scheme_step : (b : ℕ) → class_test Scheme b ≡ true → (class_test Step b ≡ true) × (is_no_underscore b ≡ true)
scheme_step b e = (grind (arith, nat_tests), grind (arith, nat_tests))

no_scheme : (b : ℕ) → class_test Scheme b ≡ false → class_test Step b ≡ true → is_no_underscore b ≡ false
no_scheme b e f = grind (arith, nat_tests)

colon_step : (b : ℕ) → b ≡ 58 → class_test Step b ≡ false
colon_step b e = grind (arith, nat_tests)

-- one more byte of the scheme in front changes nothing
module _ (b : ℕ) (text : List ℕ) where
  goes_on : class_test Scheme b ≡ true → (IsSchemeEnd text → IsScheme text) × (IsScheme text → IsSchemeEnd text)
      → (IsSchemeEnd (b ∷ text) → IsScheme (b ∷ text)) × (IsScheme (b ∷ text) → IsSchemeEnd (b ∷ text))
  goes_on e more =
      let parts = scheme_step b e in
      let steps : 1 + prefix_len (class_test Step) text ≡ suc (prefix_len (class_test Step) text) = omega arith in
      let schemes : 1 + prefix_len (class_test Scheme) text ≡ suc (prefix_len (class_test Scheme) text) = omega arith in
      (rw (e, parts.0, steps, schemes, parts.1) more.0, rw (e, parts.0, steps, schemes, parts.1) more.1)

  held_back : class_test Scheme b ≡ false → class_test Step b ≡ true → IsScheme (b ∷ text) → ⊥
  held_back e step scheme =
      let steps : 1 + prefix_len (class_test Step) text ≡ suc (prefix_len (class_test Step) text) = omega arith in
      let held = rw (step, steps, no_scheme b e step) at scheme.0 in
      cc

  colon_after : (s : Bool) → class_test Step b ≡ s → class_test Scheme b ≡ false → IsScheme (b ∷ text) → b ≡ 58
  colon_after true step e scheme = absurd (held_back e step scheme)
  colon_after false step e scheme = rw step at scheme.1

  ends : class_test Scheme b ≡ false → (IsSchemeEnd (b ∷ text) → IsScheme (b ∷ text)) × (IsScheme (b ∷ text) → IsSchemeEnd (b ∷ text))
  ends e = (
    λ end. (let same : b ≡ 58 = rw e at end in rw (colon_step b same) (refl, same)),
    λ scheme. rw e (colon_after (class_test Step b) refl e scheme),
  )

-- the two definitions of where a scheme ends agree
pub scheme_ends : (text : List ℕ) → (IsSchemeEnd text → IsScheme text) × (IsScheme text → IsSchemeEnd text)
scheme_ends [] = (λ e. absurd (omega arith), λ e. absurd (omega (arith, e.1)))
scheme_ends (b ∷ text) =
    elim (class_test Scheme b) as (λ s. class_test Scheme b ≡ s → (IsSchemeEnd (b ∷ text) → IsScheme (b ∷ text))
    × (IsScheme (b ∷ text) → IsSchemeEnd (b ∷ text))) [
      | true ↦ λ e. goes_on b text e (scheme_ends text)
      | false ↦ λ e. ends b text e
    ] refl
