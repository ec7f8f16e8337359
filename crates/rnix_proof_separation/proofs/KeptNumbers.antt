-- A number is the same before white space.
use Rattle.std.proofs.Common.{◌≡◌, ℕ, ◌+◌, ◌-◌, ◌<◌, ◌≤◌, Bool, true, false, not, ◌&&◌, ◌||◌, ◌==◌, List, ◌++◌, length, get_or, drop, Option, Some, None, refl}
use Rattle.std.proofs.{Common.{sym, ap, ◌∙◌, subst, inl, inr, arith, cond, get_or-drop}, lemmas.{List.Sums.prefix_len_passes, Bool.{cases_lt, cond_both}}}
use Rattle.std.{proofs.lemmas.Bool.{both_ways, and_parts, and_right, eqb-false}, specs.{Prelude.codes, Char.is_ascii_digit}}
use Rattle.rnix_kinds.specs.declared.{kinds.SyntaxKind.TheVariants.{TOKEN_ERROR, TOKEN_FLOAT}, tokenizer.rule.{Cut.Cut, Change.TheVariants.Stay}}
use Rattle.rnix_kinds.specs.Lexical.{Texts.{begins, run_end}, Plain.plain, Numbers.{exponent_digits, exponent, fraction, digits_to, number}}
use Rattle.rnix_proof_separation.proofs.{Appended.{if_true, if_false, same_byte, next_byte_at, no_run, end_stopped, end_some, is_edge, edge_out}, KeptCuts.Fits}
use Rattle.rnix_proof_separation.{proofs.KeptCuts.no_error_if, specs.Separated.is_error}

-- the byte is `e` or `E`; and in the next test `+` or `-`
abbrev pub is_mark : ℕ → Bool
is_mark b = b == 101 || b == 69

abbrev pub is_sign : ℕ → Bool
is_sign b = b == 43 || b == 45

-- a point after digits, whose first two bytes are `b` and `c`, belongs to the number
abbrev pub is_point : ℕ → ℕ → ℕ → Bool
is_point a b c = a == 46 && not (b == 48 && not (c == 46))

-- the text begins with a point and a digit
abbrev is_fraction : List ℕ → Bool
is_fraction x = begins (codes ".") x && is_ascii_digit (get_or x 1 0)

-- the parts of a number only make it longer
exponent_len : (i : ℕ) (x : List ℕ) → i ≤ (exponent i x).len
exponent_len i x =
    cond_both (is_mark (get_or x i 0)) _ _ (λ (c : Cut). i ≤ c.len)
    (λ e. cond_both (is_sign (get_or x (i + 1) 0)) _ _ (λ (c : Cut). i ≤ c.len) (λ f. omega arith) (λ f. omega arith)) (λ e. omega arith)

fraction_len : (i : ℕ) (x : List ℕ) → run_end is_ascii_digit i x ≤ (fraction i x).len
fraction_len i x = exponent_len (run_end is_ascii_digit i x) x

digits_len : (end : ℕ) (x : List ℕ) → end ≤ (digits_to end x).len
digits_len end x =
    cond_both (is_point (get_or x end 0) (get_or x 0 0) (get_or x 1 0)) _ _ (λ (c : Cut). end ≤ c.len)
    (λ e. omega (arith, fraction_len (end + 1) x)) (λ e. omega arith)

-- an exponent that is no error has digits
exponent_some : (i : ℕ) (x : List ℕ) → is_error (exponent_digits i x).kind ≡ false → i < run_end is_ascii_digit i x
exponent_some i x e =
    let other = eqb-false (run_end is_ascii_digit i x) i (no_error_if (run_end is_ascii_digit i x == i) TOKEN_FLOAT e) in
    omega arith

-- if the rule applies, its cut is the token
abbrev pub FitsIf : List ℕ → Option Cut → Type 0
FitsIf t None = Unit {0}
FitsIf t (Some cut) = Fits t cut

module _ (t s r : List ℕ) (some : 0 < length t) (edge : is_edge (get_or r 0 0) ≡ true) where
  digit_end : (i : ℕ) → i ≤ length t → run_end is_ascii_digit i (t ++ s) ≤ length t → run_end is_ascii_digit i (t ++ r) ≡ run_end is_ascii_digit i (t ++ s)
  digit_end i h k = end_stopped is_ascii_digit i t s r h k (no_run is_ascii_digit r (edge_out is_ascii_digit refl (get_or r 0 0) edge))

  digits_kept : (i : ℕ) → i ≤ length t → Fits t (exponent_digits i (t ++ s)) → exponent_digits i (t ++ r) ≡ exponent_digits i (t ++ s)
  digits_kept i h fits = ap (λ e. plain (cond (e == i) TOKEN_ERROR TOKEN_FLOAT) e) (digit_end i h (omega (arith, fits.0)))

  exponent_kept : (i : ℕ) → i ≤ length t → Fits t (exponent i (t ++ s)) → exponent i (t ++ r) ≡ exponent i (t ++ s)
  exponent_kept i h =
      cond_both (is_mark (get_or (t ++ s) i 0)) _ _ (λ (c : Cut). Fits t c → exponent i (t ++ r) ≡ c)
      (λ e. cond_both (is_sign (get_or (t ++ s) (i + 1) 0)) _ _ (λ (c : Cut). Fits t c → exponent i (t ++ r) ≡ c)
      (λ f fits. let size : i + 2 ≤ length t = omega (arith, fits.0) in
      rw (same_byte t r s i (omega arith), e, same_byte t r s (i + 1) (omega arith), f) (digits_kept (i + 2) size fits))
      (λ f fits. let size : i + 1 < length t = omega (arith, fits.0, exponent_some (i + 1) (t ++ s) fits.1) in
      rw (same_byte t r s i (omega arith), e, same_byte t r s (i + 1) size, f) (digits_kept (i + 1) (omega arith) fits)))
      (λ e fits. rw (next_byte_at t r i fits.0, edge_out is_mark refl (get_or r 0 0) edge))

  fraction_kept : (i : ℕ) → i ≤ length t → Fits t (fraction i (t ++ s)) → fraction i (t ++ r) ≡ fraction i (t ++ s)
  fraction_kept i h fits =
      let end : run_end is_ascii_digit i (t ++ s) ≤ length t = omega (arith, fits.0, fraction_len i (t ++ s)) in
      ap (λ k. exponent k (t ++ r)) (digit_end i h end) ∙ exponent_kept (run_end is_ascii_digit i (t ++ s)) end fits

  digits_to_kept : (end : ℕ) → 0 < end → Fits t (digits_to end (t ++ s)) → digits_to end (t ++ r) ≡ digits_to end (t ++ s)
  digits_to_kept end h =
      cond_both (is_point (get_or (t ++ s) end 0) (get_or (t ++ s) 0 0) (get_or (t ++ s) 1 0)) _ _ (λ (c : Cut). Fits t c → digits_to end (t ++ r) ≡ c)
      (λ e fits. let size : end + 1 ≤ length t = omega (arith, fits.0, fraction_len (end + 1) (t ++ s)) in
      if_true (is_point (get_or (t ++ r) end 0) (get_or (t ++ r) 0 0) (get_or (t ++ r) 1 0)) _ _ _
      (rw (same_byte t r s end (omega arith), same_byte t r s 0 some, same_byte t r s 1 (omega arith)) e) (fraction_kept (end + 1) size fits))
      (λ e fits. rw (next_byte_at t r end fits.0, edge_out (λ b. b == 46) refl (get_or r 0 0) edge))

  whole_kept : is_ascii_digit (get_or (t ++ s) 0 0) ≡ true → Fits t (digits_to (run_end is_ascii_digit 0 (t ++ s)) (t ++ s))
      → digits_to (run_end is_ascii_digit 0 (t ++ r)) (t ++ r) ≡ digits_to (run_end is_ascii_digit 0 (t ++ s)) (t ++ s)
  whole_kept e fits =
      let end : run_end is_ascii_digit 0 (t ++ s) ≤ length t = omega (arith, fits.0, digits_len (run_end is_ascii_digit 0 (t ++ s)) (t ++ s)) in
      ap (λ k. digits_to k (t ++ r)) (digit_end 0 (omega arith) end)
      ∙ digits_to_kept (run_end is_ascii_digit 0 (t ++ s)) (omega (arith, end_some is_ascii_digit (t ++ s) 0 refl e)) fits

  no_fraction : is_fraction (t ++ s) ≡ false → is_fraction (t ++ r) ≡ false
  no_fraction e =
      elim (cases_lt 1 (length t)) [
        | inl size ↦ rw (same_byte t r s 0 some, same_byte t r s 1 size) e
        | inr short ↦ and_right (begins (codes ".") (t ++ r)) (is_ascii_digit (get_or (t ++ r) 1 0))
            (rw (next_byte_at t r 1 (omega arith), edge_out is_ascii_digit refl (get_or r 0 0) edge))
      ]

  -- a number, if there is one, is the same before white space
  pub number_same : FitsIf t (number (t ++ s)) → number (t ++ r) ≡ number (t ++ s)
  number_same =
      cond_both (is_ascii_digit (get_or (t ++ s) 0 0)) _ _ (λ (o : Option Cut). FitsIf t o → number (t ++ r) ≡ o)
      (λ e fits. if_true (is_ascii_digit (get_or (t ++ r) 0 0)) _ _ _ (rw (same_byte t r s 0 some) e) (ap Some (whole_kept e fits)))
      (λ e. cond_both (is_fraction (t ++ s)) _ _ (λ (o : Option Cut). FitsIf t o → number (t ++ r) ≡ o)
      (λ f fits. let digit = end_some is_ascii_digit (t ++ s) 1 refl (and_parts (begins (codes ".") (t ++ s)) _ f).1 in
      let size : 1 < length t = omega (arith, fits.0, fraction_len 1 (t ++ s)) in
      if_false (is_ascii_digit (get_or (t ++ r) 0 0)) _ _ _ (rw (same_byte t r s 0 some) e)
      (if_true (is_fraction (t ++ r)) _ _ _ (rw (same_byte t r s 0 some, same_byte t r s 1 size) f) (ap Some (fraction_kept 1 (omega arith) fits))))
      (λ f fits. if_false (is_ascii_digit (get_or (t ++ r) 0 0)) _ _ _ (rw (same_byte t r s 0 some) e)
      (if_false (is_fraction (t ++ r)) _ _ _ (no_fraction f) refl)))

-- none of the first i bytes is a slash
abbrev pub HasNoSlash : ℕ → List ℕ → Type 0
HasNoSlash i x = (k : ℕ) → k < i → ¬ (get_or x k 0 ≡ 47)

-- the cut has no slash in it, and leaves the modes alone
abbrev pub IsPlainCut : List ℕ → Cut → Type 0
IsPlainCut x cut = HasNoSlash cut.len x × (cut.change ≡ Stay)

-- if a slash does not pass a test, no byte that passes it is a slash
no_slash : (p : ℕ → Bool) → p 47 ≡ false → (b : ℕ) → p b ≡ true → b ≡ 47 → ⊥
no_slash p out b e f = both_ways (p b) (ap p f ∙ out) e

module _ (x : List ℕ) where
  no_slash_run : (i : ℕ) → HasNoSlash i x → HasNoSlash (run_end is_ascii_digit i x) x
  no_slash_run i free k h is =
      elim (cases_lt k i) [
        | inl before ↦ free k before is
        | inr past ↦ (let index_is : i + (k - i) ≡ k = omega arith in
            no_slash is_ascii_digit refl (get_or x k 0) (ap is_ascii_digit (sym (get_or-drop i x (k - i) 0 ∙ ap (λ j. get_or x j 0) index_is))
            ∙ prefix_len_passes is_ascii_digit (drop i x) (k - i) 0 (omega arith)) is)
      ]

  no_slash_more : (i : ℕ) → HasNoSlash i x → (get_or x i 0 ≡ 47 → ⊥) → HasNoSlash (i + 1) x
  no_slash_more i free other k h is =
      elim (cases_lt k i) [
        | inl before ↦ free k before is
        | inr past ↦ (let here : k ≡ i = omega arith in other (ap (λ j. get_or x j 0) (sym here) ∙ is))
      ]

  plain_exponent : (i : ℕ) → HasNoSlash i x → IsPlainCut x (exponent i x)
  plain_exponent i free =
      cond_both (is_mark (get_or x i 0)) _ _ (IsPlainCut x)
      (λ e. let more = no_slash_more i free (no_slash is_mark refl _ e) in
      cond_both (is_sign (get_or x (i + 1) 0)) _ _ (IsPlainCut x)
      (λ f. let two : i + 1 + 1 ≡ i + 2 = omega arith in
      (no_slash_run (i + 2) (subst (λ j. HasNoSlash j x) two (no_slash_more (i + 1) more (no_slash is_sign refl _ f))), refl))
      (λ f. (no_slash_run (i + 1) more, refl)))
      (λ e. (free, refl))

  plain_fraction : (i : ℕ) → HasNoSlash i x → IsPlainCut x (fraction i x)
  plain_fraction i free = plain_exponent (run_end is_ascii_digit i x) (no_slash_run i free)

  plain_digits : (end : ℕ) → HasNoSlash end x → IsPlainCut x (digits_to end x)
  plain_digits end free =
      cond_both (is_point (get_or x end 0) (get_or x 0 0) (get_or x 1 0)) _ _ (IsPlainCut x)
      (λ e. plain_fraction (end + 1) (no_slash_more end free (no_slash (λ b. b == 46) refl _ (and_parts (get_or x end 0 == 46) _ e).0)))
      (λ e. (free, refl))

  -- this holds for a cut, if there is one
  abbrev IfCut : Option Cut → Type 0
  IfCut None = Unit {0}
  IfCut (Some cut) = IsPlainCut x cut

  none_before : HasNoSlash 0 x
  none_before k h is = absurd (omega arith)

  -- a number has no slash in it, and leaves the modes alone
  pub number_plain : (cut : Cut) → number x ≡ Some cut → IsPlainCut x cut
  number_plain cut is =
      subst IfCut is
      (cond_both (is_ascii_digit (get_or x 0 0)) _ _ IfCut
      (λ e. plain_digits (run_end is_ascii_digit 0 x) (no_slash_run 0 none_before))
      (λ e. cond_both (is_fraction x) _ _ IfCut
      (λ f. plain_fraction 1 (no_slash_more 0 none_before (no_slash (λ b. b == 46) refl _ (and_parts (begins (codes ".") x) _ f).0)))
      (λ f. tt)))
