-- Numbers by their decimal digits.
use Rattle.std.proofs.Common.{◌≡◌, ◌∙◌, ℕ, ◌+◌, ◌*◌, ◌^◌, ◌<◌, ◌≤◌, true, List, [], ◌∷◌, length, drop, get_or, sym, ap, arith}
use Rattle.std.proofs.lemmas.{List.drop_more, Bool.Decides.nat_tests}
use Rattle.nix_lints.specs.LargeInteger.{digit, number_from, is_large}

-- more digits do not make a number smaller
grows : (number : ℕ) (bytes : List ℕ) → number ≤ number_from number bytes
grows number [] = omega arith
grows number (byte ∷ bytes) = omega (arith, grows (number * 10 + digit byte) bytes)

-- a number of 2^63 or more
is_large_number : (digits : List ℕ) → 2 ^ 63 ≤ number_from 0 digits → true ≡ is_large digits
is_large_number digits large = grind (arith, nat_tests, large)

-- an integer is too large if its first digits already are
pub large_there : (digits : List ℕ) (i number byte new : ℕ) → number_from number (drop i digits) ≡ number_from 0 digits → i < length digits →
    byte ≡ get_or digits i 0 → new ≡ number * 10 + digit byte → 2 ^ 63 ≤ new → true ≡ is_large digits
large_there digits i number byte new before within is added large =
    let more : number_from new (drop (i + 1) digits) ≡ number_from 0 digits =
    (λ k. number_from (added k) (drop (i + 1) digits)) ∙ (λ k. number_from (number * 10 + digit (is k)) (drop (i + 1) digits))
    ∙ ap (number_from number) (sym (drop_more digits i 0 within)) ∙ before in
    is_large_number digits (omega (arith, large, grows new (drop (i + 1) digits), more))
