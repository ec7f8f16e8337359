-- A number before a bracket does not depend on what follows the bracket.
use Rattle.std.proofs.Common.{◌≡◌, ℕ, ◌+◌, ◌<◌, ◌≤◌, Bool, true, false, ◌==◌, List, ◌++◌, length, get_or, refl}
use Rattle.std.proofs.Common.{ap, ◌∙◌, arith, cond}
use Rattle.std.proofs.lemmas.Bool.{cond_both, and_parts, Decides.nat_tests}
use Rattle.std.specs.{Char.is_ascii_digit}
use Rattle.rnix_kinds.specs.declared.{kinds.SyntaxKind.TheVariants.{TOKEN_ERROR, TOKEN_FLOAT}, tokenizer.rule.Cut.Cut}
use Rattle.rnix_kinds.specs.Lexical.{Texts.{run_end}, Plain.plain, Numbers.{exponent_digits, exponent, fraction, digits_to, number}}
use Rattle.rnix_proof_separation.proofs.KeptNumbers.{is_mark, is_sign, is_point}
use Rattle.rnix_proof_replacement.proofs.BeforeBrackets.{is_stop, BeginsBracket, byte_same, before_stop, end_le, end_same}

-- the byte is a point
abbrev is_dot : ℕ → Bool
is_dot b = b == 46

no_digit : (b : ℕ) → is_stop b ≡ true → is_ascii_digit b ≡ false
no_digit b e = grind (arith, nat_tests)

no_mark : (b : ℕ) → is_stop b ≡ true → is_mark b ≡ false
no_mark b e = grind (arith, nat_tests)

no_sign : (b : ℕ) → is_stop b ≡ true → is_sign b ≡ false
no_sign b e = grind (arith, nat_tests)

no_dot : (b : ℕ) → is_stop b ≡ true → is_dot b ≡ false
no_dot b e = grind (arith, nat_tests)

module _ (o : List ℕ) (bracket : BeginsBracket o) (v : List ℕ) (some : 0 < length v) (s r : List ℕ) where
  byte : (i : ℕ) → i ≤ length v → get_or ((v ++ o) ++ r) i 0 ≡ get_or ((v ++ o) ++ s) i 0
  byte i h = byte_same o bracket v r s i h

  digit_end : (i : ℕ) → i ≤ length v → run_end is_ascii_digit i ((v ++ o) ++ r) ≡ run_end is_ascii_digit i ((v ++ o) ++ s)
  digit_end i h = end_same o bracket v is_ascii_digit i s r (no_digit (get_or o 0 0) bracket.stop) h

  digit_le : (i : ℕ) → i ≤ length v → run_end is_ascii_digit i ((v ++ o) ++ s) ≤ length v
  digit_le i h = end_le o bracket v is_ascii_digit i s (no_digit (get_or o 0 0) bracket.stop) h

  digits_same : (i : ℕ) → i ≤ length v → exponent_digits i ((v ++ o) ++ r) ≡ exponent_digits i ((v ++ o) ++ s)
  digits_same i h = ap (λ e. plain (cond (e == i) TOKEN_ERROR TOKEN_FLOAT) e) (digit_end i h)

  exponent_same : (i : ℕ) → i ≤ length v → exponent i ((v ++ o) ++ r) ≡ exponent i ((v ++ o) ++ s)
  exponent_same i h =
      cond_both (is_mark (get_or ((v ++ o) ++ s) i 0)) _ _ (λ (c : Cut). exponent i ((v ++ o) ++ r) ≡ c)
      (λ e. let here = before_stop o bracket v is_mark s i (no_mark (get_or o 0 0) bracket.stop) h e in
      let size : i + 1 ≤ length v = omega arith in
      cond_both (is_sign (get_or ((v ++ o) ++ s) (i + 1) 0)) _ _ (λ (c : Cut). exponent i ((v ++ o) ++ r) ≡ c)
      (λ f. let next = before_stop o bracket v is_sign s (i + 1) (no_sign (get_or o 0 0) bracket.stop) size f in
      rw (byte i h, e, byte (i + 1) size, f) (digits_same (i + 2) (omega arith)))
      (λ f. rw (byte i h, e, byte (i + 1) size, f) (digits_same (i + 1) size)))
      (λ e. rw (byte i h, e) refl)

  fraction_same : (i : ℕ) → i ≤ length v → fraction i ((v ++ o) ++ r) ≡ fraction i ((v ++ o) ++ s)
  fraction_same i h =
      ap (λ k. exponent k ((v ++ o) ++ r)) (digit_end i h) ∙ exponent_same (run_end is_ascii_digit i ((v ++ o) ++ s)) (digit_le i h)

  digits_to_same : (end : ℕ) → end ≤ length v → digits_to end ((v ++ o) ++ r) ≡ digits_to end ((v ++ o) ++ s)
  digits_to_same end h =
      let one : 1 ≤ length v = omega arith in
      cond_both (is_point (get_or ((v ++ o) ++ s) end 0) (get_or ((v ++ o) ++ s) 0 0) (get_or ((v ++ o) ++ s) 1 0)) _ _
      (λ (c : Cut). digits_to end ((v ++ o) ++ r) ≡ c)
      (λ e. let here = before_stop o bracket v is_dot s end (no_dot (get_or o 0 0) bracket.stop) h (and_parts (get_or ((v ++ o) ++ s) end 0 == 46) _ e).0 in
      rw (byte end h, byte 0 (omega arith), byte 1 one, e) (fraction_same (end + 1) (omega arith)))
      (λ e. rw (byte end h, byte 0 (omega arith), byte 1 one, e) refl)

  whole_same : digits_to (run_end is_ascii_digit 0 ((v ++ o) ++ r)) ((v ++ o) ++ r) ≡ digits_to (run_end is_ascii_digit 0 ((v ++ o) ++ s)) ((v ++ o) ++ s)
  whole_same =
      ap (λ k. digits_to k ((v ++ o) ++ r)) (digit_end 0 (omega arith))
      ∙ digits_to_same (run_end is_ascii_digit 0 ((v ++ o) ++ s)) (digit_le 0 (omega arith))

  -- a number, if there is one, does not depend on it
  pub number_before : number ((v ++ o) ++ r) ≡ number ((v ++ o) ++ s)
  number_before = rw (whole_same, fraction_same 1 (omega arith), byte 0 (omega arith), byte 1 (omega arith)) refl
