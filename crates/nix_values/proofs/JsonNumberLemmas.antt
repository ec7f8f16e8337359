-- Numbers in JSON, and floats.
use Rattle.std.proofs.Common.{◌≡◌, ◌≢◌, ◌∙◌, ℕ, zero, suc, ◌+◌, ◌-◌, ◌<◌, ◌≤◌, true, false, Bool, lit<, List, [], ◌∷◌, length, get_or, take, drop, ap, sym, refl, subst, arith, inl, inr, Option, Some, None}
use Rattle.std.specs.Prelude.{unwrap_or, option_map, option_and_then, ◌==◌}
use Rattle.std.specs.Char.{is_ascii_digit, digit_value}
use Rattle.std.specs.List.{prefix_len}
use Rattle.std.specs.Str.{IsCharBoundary, IsUtf8}
use Rattle.std.specs.Str.Parse.{AllDigits, IsNumeral}
use Rattle.std.proofs.lemmas.{Bool.{cases_lt, cond-true, cond-false, eqb-true, eqb-false}, Bool.Decides.nat_tests, Str.{IsCharBoundary-start, IsCharBoundary-after_ascii}}
use Rattle.std.proofs.lemmas.List.{get_or-drop, length-drop, get_or_past, drop_more, length-take-le}
use Rattle.std.proofs.lemmas.List.Sums.{prefix_len-le-length, prefix_len_passes}
use Rattle.nix_values.specs.Contents.{Plain}
use Rattle.nix_values.specs.Floats.{without_first}
use Rattle.nix_values.specs.JsonNumbers.{digits_end, some_digits, whole_end, decimals_end, unsigned_start, number_end, number_value, number_at}
use Rattle.nix_values.specs.JsonReading.{EndsAscii}

-- a digit is an ASCII byte
digit_low : (b : ℕ) → is_ascii_digit b ≡ true → b < 128
digit_low b h = grind (arith, nat_tests)

-- a text may be cut after the digits at its beginning
pub digits_boundary : (text : List ℕ) → IsUtf8 text → IsCharBoundary text (prefix_len is_ascii_digit text)
digits_boundary text utf8 =
    let n = prefix_len is_ascii_digit text in
    let fits : n ≤ length text = prefix_len-le-length is_ascii_digit text in
    elim (cases_lt 0 n) [
      | inl some ↦
          let last : n - 1 < n = omega arith in
          let there : n - 1 < length text = omega arith in
          let low : get_or text (n - 1) 0 < 128 = digit_low (get_or text (n - 1) 0) (prefix_len_passes is_ascii_digit text (n - 1) 0 last) in
          let e : n - 1 + 1 ≡ n = omega arith in
          subst (IsCharBoundary text) e (IsCharBoundary-after_ascii text (n - 1) utf8 there low)
      | inr none ↦
          let e : 0 ≡ n = omega (arith, none) in
          subst (IsCharBoundary text) e (IsCharBoundary-start text utf8)
    ]

-- a text may be cut after an ASCII byte at its beginning
pub first_boundary : (text : List ℕ) (b : ℕ) → IsUtf8 text → get_or text 0 0 ≡ b → 0 < b → b < 128 → IsCharBoundary text 1
first_boundary text b utf8 is some low =
    let there : 0 < length text = elim (cases_lt 0 (length text)) [
      | inl within ↦ within
      | inr past ↦ let e : 0 ≡ b = sym (get_or_past text 0 0 past) ∙ is in absurd (omega (arith, e, some))
    ] in
    let ascii : get_or text 0 0 < 128 = omega (arith, is, low) in
    let e : 0 + 1 ≡ 1 = refl in
    subst (IsCharBoundary text) e (IsCharBoundary-after_ascii text 0 utf8 there ascii)

-- a text may be cut after an ASCII byte
pub ascii_boundary : (text : List ℕ) (end : ℕ) → IsUtf8 text → EndsAscii text end → IsCharBoundary text end
ascii_boundary text end utf8 h =
    let there : end - 1 < length text = omega (arith, h.0, h.1) in
    let e : end - 1 + 1 ≡ end = omega (arith, h.0) in
    subst (IsCharBoundary text) e (IsCharBoundary-after_ascii text (end - 1) utf8 there h.2)

-- digits end after an ASCII byte
pub digits_ascii : (text : List ℕ) (from end : ℕ) → from ≤ length text → end ≡ from + prefix_len is_ascii_digit (drop from text) → end ≢ from →
    EndsAscii text end
digits_ascii text from end within is some =
    let n = prefix_len is_ascii_digit (drop from text) in
    let fits : n ≤ length text - from =
    subst (λ k. n ≤ k) (length-drop from text) (prefix_len-le-length is_ascii_digit (drop from text)) in
    let more : 0 < n = omega (arith, is, some) in
    let last : n - 1 < n = omega arith in
    let index_is : from + (n - 1) ≡ end - 1 = omega (arith, is) in
    let low : get_or (drop from text) (n - 1) 0 < 128 = digit_low _ (prefix_len_passes is_ascii_digit (drop from text) (n - 1) 0 last) in
    let ascii : get_or text (end - 1) 0 < 128 =
    subst (λ k. get_or text k 0 < 128) index_is (subst (λ b. b < 128) (get_or-drop from text (n - 1) 0) low) in
    (omega (arith, is), omega (arith, is), ascii)

-- the digits at the beginning of a text are digits of base 10
digits_front : (b : ℕ) (bs : List ℕ) (e : Bool) → is_ascii_digit b ≡ e → AllDigits 10 (take (prefix_len is_ascii_digit bs) bs) →
    AllDigits 10 (take (prefix_len is_ascii_digit (b ∷ bs)) (b ∷ bs))
digits_front b bs false h rest = rw h tt
digits_front b bs true h rest = rw h (one_more b bs (prefix_len is_ascii_digit bs) h rest)
  where
    one_more : (b : ℕ) (bs : List ℕ) (n : ℕ) → is_ascii_digit b ≡ true → AllDigits 10 (take n bs) → AllDigits 10 (take (1 + n) (b ∷ bs))
    one_more b bs n h rest =
        let e : suc n ≡ 1 + n = omega arith in
        let value : digit_value b < 10 = grind (arith, nat_tests) in
        subst (λ k. AllDigits 10 (take k (b ∷ bs))) e (value, rest)

all_digits : (bs : List ℕ) → AllDigits 10 (take (prefix_len is_ascii_digit bs) bs)
all_digits [] = tt
all_digits (b ∷ bs) = digits_front b bs (is_ascii_digit b) refl (all_digits bs)

-- the integer part of a number consists of digits
record IsWhole (from : ℕ) (text : List ℕ) (end : ℕ) : Type 0 where
  count : ℕ
  end_is : end ≡ from + count
  some : 0 < count
  within : count ≤ length (drop from text)
  digits : AllDigits 10 (take count (drop from text))

one_zero : (from : ℕ) (text : List ℕ) → get_or text from 0 ≡ 48 → IsWhole from text (from + 1)
one_zero from text is =
    let there : from < length text = elim (cases_lt from (length text)) [
      | inl within ↦ within
      | inr past ↦ let e : 0 ≡ 48 = sym (get_or_past text from 0 past) ∙ is in absurd (omega (arith, e))
    ] in
    let cut : drop from text ≡ 48 ∷ drop (from + 1) text = drop_more text from 0 there ∙ ap (λ b. b ∷ drop (from + 1) text) is in
    let low : digit_value 48 < 10 = lit< tt in
    record {
      count = 1;
      end_is = refl;
      some = lit< tt;
      within = subst (λ l. 1 ≤ length l) (sym cut) (omega arith);
      digits = subst (λ l. AllDigits 10 (take 1 l)) (sym cut) (low, tt);
    }

first_digits_whole : (from : ℕ) (text : List ℕ) (end : ℕ) (e : Bool) → (digits_end from text == from) ≡ e → some_digits from text ≡ Some end →
    IsWhole from text end
first_digits_whole from text end true none h = absurd (let f : None ≡ Some end = sym (cond-true _ _ _ none) ∙ h in cc)
first_digits_whole from text end false some h =
    let n = prefix_len is_ascii_digit (drop from text) in
    let is : digits_end from text ≡ end = ap (λ o. unwrap_or o 0) (sym (cond-false _ _ _ some) ∙ h) in
    let apart : digits_end from text ≢ from = eqb-false _ _ some in
    record {
      count = n;
      end_is = sym is;
      some = omega (arith, apart);
      within = prefix_len-le-length is_ascii_digit (drop from text);
      digits = all_digits (drop from text);
    }

whole_digits : (from : ℕ) (text : List ℕ) (end : ℕ) (e : Bool) → (get_or text from 0 == 48) ≡ e → whole_end from text ≡ Some end → IsWhole from text end
whole_digits from text end true zero_first h =
    let is : from + 1 ≡ end = ap (λ o. unwrap_or o 0) (sym (cond-true _ _ _ zero_first) ∙ h) in
    subst (IsWhole from text) is (one_zero from text (eqb-true _ _ zero_first))
whole_digits from text end false other h =
    first_digits_whole from text end (digits_end from text == from) refl (sym (cond-false _ _ _ other) ∙ h)

-- a run of decimal digits that is not empty is a numeral
numeral_of : (k : ℕ) (bs : List ℕ) → 0 < k → k ≤ length bs → AllDigits 10 (take k bs) → IsNumeral 10 (take k bs)
numeral_of k bs some fits digits = let len : length (take k bs) ≡ k = length-take-le k bs fits in (omega (arith, len, some), digits)

numeral_first : (b k : ℕ) (bs : List ℕ) → (b == 45) ≡ false → 0 < k → IsNumeral 10 (take k (b ∷ bs)) → IsNumeral 10 (without_first 45 (take k (b ∷ bs)))
numeral_first b zero bs plain some h = absurd (omega (arith, some))
numeral_first b (suc k) bs plain some h = subst (IsNumeral 10) (sym (cond-false (b == 45) (take k bs) (b ∷ take k bs) plain)) h

numeral_negative : (b k : ℕ) (bs : List ℕ) → (b == 45) ≡ true → IsNumeral 10 (take k bs) → IsNumeral 10 (without_first 45 (take (suc k) (b ∷ bs)))
numeral_negative b k bs minus h = subst (IsNumeral 10) (sym (cond-true (b == 45) (take k bs) (b ∷ take k bs) minus)) h

numeral : (text : List ℕ) (whole : ℕ) → whole_end (unsigned_start text) text ≡ Some whole → IsNumeral 10 (without_first 45 (take whole text))
numeral [] whole h = absurd (cc)
numeral (b ∷ bs) whole h = by (b == 45) refl
  where
    by : (e : Bool) → (b == 45) ≡ e → IsNumeral 10 (without_first 45 (take whole (b ∷ bs)))
    by true minus =
        let start : unsigned_start (b ∷ bs) ≡ 1 = cond-true (b == 45) 1 0 minus in
        let part = whole_digits 1 (b ∷ bs) whole (get_or (b ∷ bs) 1 0 == 48) refl (subst (λ s. whole_end s (b ∷ bs) ≡ Some whole) start h) in
        let is : suc part.count ≡ whole = omega (arith, part.end_is) in
        subst (λ n. IsNumeral 10 (without_first 45 (take n (b ∷ bs)))) is
        (numeral_negative b part.count bs minus (numeral_of part.count bs part.some part.within part.digits))
    by false plain =
        let start : unsigned_start (b ∷ bs) ≡ 0 = cond-false (b == 45) 1 0 plain in
        let part = whole_digits 0 (b ∷ bs) whole (get_or (b ∷ bs) 0 0 == 48) refl (subst (λ s. whole_end s (b ∷ bs) ≡ Some whole) start h) in
        let is : part.count ≡ whole = omega (arith, part.end_is) in
        subst (λ n. IsNumeral 10 (without_first 45 (take n (b ∷ bs)))) is
        (numeral_first b part.count bs plain part.some (numeral_of part.count (b ∷ bs) part.some part.within part.digits))

-- where a number ends, given the end of its integer part, and whether it is an integer
abbrev end_with : ℕ → ℕ → ℕ × Bool
end_with w e = (e, e == w)

ended_whole : (end w : ℕ) (o : Option ℕ) → option_map (end_with w) o ≡ Some (end, true) → w ≡ end
ended_whole end w None h = absurd (cc)
ended_whole end w (Some d) h =
    let none : ℕ × Bool = (0, false) in
    let first : d ≡ end = ap (λ (o : Option (ℕ × Bool)). (unwrap_or o none).0) h in
    let second : (d == w) ≡ true = ap (λ (o : Option (ℕ × Bool)). (unwrap_or o none).1) h in
    sym (eqb-true d w second) ∙ first

-- an integer without its sign is a numeral
after_whole : (text : List ℕ) (end : ℕ) (whole : Option ℕ) → whole_end (unsigned_start text) text ≡ whole →
    option_and_then (λ w. option_map (end_with w) (decimals_end w text)) whole ≡ Some (end, true) → IsNumeral 10 (without_first 45 (take end text))
after_whole text end None is h = absurd (cc)
after_whole text end (Some w) is h =
    subst (λ n. IsNumeral 10 (without_first 45 (take n text))) (ended_whole end w (decimals_end w text) h) (numeral text w is)

pub integer_numeral : (text : List ℕ) (end : ℕ) → number_end text ≡ Some (end, true) → IsNumeral 10 (without_first 45 (take end text))
integer_numeral text end h = after_whole text end (whole_end (unsigned_start text) text) refl h

-- the number with which a text begins
pub number_found : (text : List ℕ) (end : ℕ) (is_integer : Bool) (plain : Plain) → number_end text ≡ Some (end, is_integer) →
    number_value is_integer (take end text) ≡ Some plain → number_at text ≡ Some (plain, end)
unfolding number_at
number_found text end is_integer plain h value =
    ap (option_and_then (λ (n : ℕ × Bool). option_map (λ v. (v, n.0)) (number_value n.1 (take n.0 text)))) h
    ∙ ap (option_map (λ (v : Plain). (v, end))) value

pub number_none : (text : List ℕ) (end : ℕ) (is_integer : Bool) → number_end text ≡ Some (end, is_integer) →
    number_value is_integer (take end text) ≡ None → number_at text ≡ None
unfolding number_at
number_none text end is_integer h value =
    ap (option_and_then (λ (n : ℕ × Bool). option_map (λ v. (v, n.0)) (number_value n.1 (take n.0 text)))) h
    ∙ ap (option_map (λ (v : Plain). (v, end))) value

pub no_number : (text : List ℕ) → number_end text ≡ None → number_at text ≡ None
unfolding number_at
no_number text h = ap (option_and_then (λ (n : ℕ × Bool). option_map (λ v. (v, n.0)) (number_value n.1 (take n.0 text)))) h
