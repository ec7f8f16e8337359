-- Integers that fit in 64 bits, and strings.
use Rattle.std.proofs.Common.{◌≡◌, ◌∙◌, ℕ, ◌^◌, ℤ, pos, negsuc, neg_ℤ, Bool, true, false, List, length, ap, sym, refl, Option, Some, None, SFits, w64}
use Rattle.std.specs.Prelude.{Result, Ok, Err, MatchResult, nat_lt, ◌&&◌, if◌then◌else◌, option_and_then}
use Rattle.std.specs.Str.{all_ascii_digits}
use Rattle.std.specs.Str.Parse.{IsNumeral, digits_value, without_leading_sign, signed_digits_value, ParsesSigned}
use Rattle.std.proofs.lemmas.Bool.{and_parts, and_from}
use Rattle.std.proofs.lemmas.Str.Parse.{IsNumeralModel, numerals_by_value, tells_all_ascii_digits}
use Rattle.rnix_kinds.specs.declared.kinds.SyntaxKind.TheVariants as k
use Rattle.rnix_green.specs.Equality.{same_kind}
use Rattle.rnix_green.specs.Tree.{Located, item_of, text_at}
use Rattle.rnix_green.proofs.NumberTests.{is_below, below_true}
use Rattle.nix_values.specs.Contents.{integer}
use Rattle.rnix.specs.StringParts.{plain_value}
use Rattle.nix_data.specs.Misread.{is_altered}
use Rattle.nix_data.specs.Meaning.{expression_text}
use Rattle.nix_data.specs.Scalars.{fits, is_numeral, number_in, integer_if, integer_of}

-- the test of 64 bits holds of the numbers that fit
fits_true : (number : ℤ) → SFits w64 number → fits number ≡ true
fits_true (pos n) h = is_below n (2 ^ 63) h.sfits
fits_true (negsuc n) h = is_below n (2 ^ 63) h.sfits

fits_only : (number : ℤ) → fits number ≡ true → SFits w64 number
fits_only (pos n) h = record { sfits = below_true n (2 ^ 63) h }
fits_only (negsuc n) h = record { sfits = below_true n (2 ^ 63) h }

-- a test decides which of two values is taken
if_true : {A : Type 0} (b : Bool) (x y : A) → b ≡ true → (if b then x else y) ≡ x
if_true b x y h = ap (λ t. if t then x else y) h

if_false : {A : Type 0} (b : Bool) (x y : A) → (b ≡ true → ⊥) → (if b then x else y) ≡ y
if_false true x y h = absurd (h refl)
if_false false x y h = refl

-- the test of digits is that of the standard library
digits : IsNumeralModel (λ ds. all_ascii_digits ds ≡ true) (digits_value 10)
digits = numerals_by_value (λ ds. all_ascii_digits ds ≡ true) tells_all_ascii_digits

numeral_true : (source : List ℕ) → IsNumeral 10 (without_leading_sign source) → is_numeral source ≡ true
numeral_true source h =
    and_from (nat_lt 0 (length (without_leading_sign source))) (all_ascii_digits (without_leading_sign source))
    (is_below 0 (length (without_leading_sign source)) h.0) (digits.from (without_leading_sign source) h.1)

numeral_only : (source : List ℕ) → is_numeral source ≡ true → IsNumeral 10 (without_leading_sign source)
numeral_only source h =
    let parts = and_parts (nat_lt 0 (length (without_leading_sign source))) (all_ascii_digits (without_leading_sign source)) h in
    (below_true 0 (length (without_leading_sign source)) parts.0, digits.to (without_leading_sign source) parts.1)

-- parsing a text gives its number, or fails if there is none
pub number_read : {E : Type 0} (source : List ℕ) (result : Result ℤ E) → ParsesSigned w64 10 source result →
    MatchResult result (λ number. number_in source ≡ Some number) (λ error. number_in source ≡ None)
number_read source (Ok number) h =
    if_true (is_numeral source && fits (signed_digits_value 10 source)) (Some (signed_digits_value 10 source)) None
    (and_from (is_numeral source) (fits (signed_digits_value 10 source)) (numeral_true source h.0.0) (fits_true (signed_digits_value 10 source) h.0.1))
    ∙ ap Some (sym h.1)
number_read source (Err error) h =
    if_false (is_numeral source && fits (signed_digits_value 10 source)) (Some (signed_digits_value 10 source)) None
    (λ both.
    let parts = and_parts (is_numeral source) (fits (signed_digits_value 10 source)) both in
    h (numeral_only source parts.0, fits_only (signed_digits_value 10 source) parts.1))

-- an integer without a sign before it, and one with it
pub integer_plain : (source : List ℕ) (number : ℤ) → number_in source ≡ Some number → SFits w64 number → integer_of false source ≡ Some (integer number)
integer_plain source number is h =
    ap (option_and_then integer_if) is ∙ if_true (fits number) (Some (integer number)) None (fits_true number h)

pub integer_negated : (source : List ℕ) (number : ℤ) → number_in source ≡ Some number → SFits w64 (neg_ℤ number) →
    integer_of true source ≡ Some (integer (neg_ℤ number))
integer_negated source number is h =
    ap (option_and_then (λ number. integer_if (neg_ℤ number))) is
    ∙ if_true (fits (neg_ℤ number)) (Some (integer (neg_ℤ number))) None (fits_true (neg_ℤ number) h)

-- a text without a number
pub integer_none : (is_negative : Bool) (source : List ℕ) → number_in source ≡ None → integer_of is_negative source ≡ None
integer_none is_negative source none =
    ap (option_and_then (λ (number : ℤ). integer_if (if is_negative then neg_ℤ number else number))) none

-- no text in either case
abbrev no_text_if : Bool → Option (List ℕ)
no_text_if b = if b then None else None

never : (b : Bool) → no_text_if b ≡ None
never true = refl
never false = refl

-- an expression of any other kind is no string
pub no_text : (e : Located) → same_kind k.NODE_STRING (item_of e).kind ≡ false → expression_text e ≡ None
no_text e other =
    ap (λ b. if is_altered (text_at e) then None else (if b then plain_value e else None)) other
    ∙ never (is_altered (text_at e))
