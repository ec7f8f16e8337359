-- A number stays the same if what follows it is replaced by a blank.
use Rattle.std.proofs.Common.{◌≡◌, ◌∙◌, ℕ, zero, suc, ◌+◌, ◌-◌, ◌<◌, ◌≤◌, Bool, true, false, List, [], ◌∷◌, ◌++◌, length, get_or, take, drop, ap, sym, refl, arith, ⊎_elim, Option, Some, None}
use Rattle.std.specs.Prelude.{◌==◌, ◌||◌, option_map, option_and_then, if◌then◌else◌}
use Rattle.std.specs.List.{prefix_len}
use Rattle.std.specs.Char.{is_ascii_digit}
use Rattle.std.proofs.lemmas.Bool.{cases_Bool, cases_lt, cond-true, cond-false, eqb-false, eqb-true}
use Rattle.std.proofs.lemmas.List.{get_or-take, take-append-le, take-take, length-take-le, length-drop}
use Rattle.std.proofs.Math.ListN.{get_or-append}
use Rattle.std.proofs.Math.Seq.{get_or-append_seam}
use Rattle.std.proofs.lemmas.List.Sums.{prefix_len-le-length}
use Rattle.std.proofs.lemmas.Option.{none-some, same_Some, option_and_then_some}
use Rattle.nix_values.specs.Contents.{Plain}
use Rattle.nix_values.specs.JsonNumbers.{digits_end, some_digits, whole_end, fraction_end, exponent_end, decimals_end, unsigned_start, number_end, number_value, number_at}

-- if a conditional returns a value, one of its branches does
pub if_some : {A P : Type 0} (c : Bool) (x y : Option A) (r : A) → (if c then x else y) ≡ Some r → (c ≡ true → x ≡ Some r → P) → (c ≡ false → y ≡ Some r →
    P) → P
if_some true x y r e f g = f refl e
if_some false x y r e f g = g refl e

-- if the branches still return the value, so does the conditional
pub if_kept : {A : Type 0} (c : Bool) (x x' y y' : Option A) (r : A) → (if c then x else y) ≡ Some r → (x ≡ Some r → x' ≡ Some r) → (y ≡ Some r → y' ≡ Some r) →
    (if c then x' else y') ≡ Some r
if_kept true x x' y y' r e f g = f e
if_kept false x x' y y' r e f g = g e

-- a text cut at an offset, followed by a blank and a rest
abbrev pub cut_at : ℕ → List ℕ → List ℕ → List ℕ
cut_at m text rest = take m text ++ 32 ∷ rest

digits_cut : (k : ℕ) (xs rest : List ℕ) → prefix_len is_ascii_digit xs ≤ k → prefix_len is_ascii_digit (cut_at k xs rest) ≡ prefix_len is_ascii_digit xs
digits_cut zero xs rest h = let e : prefix_len is_ascii_digit xs ≡ 0 = omega (arith, h) in sym e
digits_cut (suc k) [] rest h = refl
digits_cut (suc k) (x ∷ xs) rest h =
    ⊎_elim
    (λ is.
    let count : prefix_len is_ascii_digit (x ∷ xs) ≡ 1 + prefix_len is_ascii_digit xs = cond-true (is_ascii_digit x) (1 + prefix_len is_ascii_digit xs) 0 is in
    let less : prefix_len is_ascii_digit xs ≤ k = omega (arith, count, h) in
    cond-true (is_ascii_digit x) (1 + prefix_len is_ascii_digit (cut_at k xs rest)) 0 is ∙ ap (λ n. 1 + n) (digits_cut k xs rest less) ∙ sym count)
    (λ is.
    cond-false (is_ascii_digit x) (1 + prefix_len is_ascii_digit (cut_at k xs rest)) 0 is
    ∙ sym (cond-false (is_ascii_digit x) (1 + prefix_len is_ascii_digit xs) 0 is))
    (cases_Bool (is_ascii_digit x))

drop_cut : (from m : ℕ) (text rest : List ℕ) → from ≤ m → m ≤ length text → drop from (cut_at m text rest) ≡ cut_at (m - from) (drop from text) rest
drop_cut zero m text rest h within = let e : m ≡ m - 0 = omega arith in ap (λ k. cut_at k text rest) e
drop_cut (suc from) zero text rest h within = absurd (omega (arith, h))
drop_cut (suc from) (suc m) [] rest h within = absurd (omega (arith, within))
drop_cut (suc from) (suc m) (x ∷ xs) rest h within =
    let less : from ≤ m = omega (arith, h) in
    let inside : m ≤ length xs = omega (arith, within) in
    let e : m - from ≡ suc m - suc from = omega arith in
    drop_cut from m xs rest less inside ∙ ap (λ k. cut_at k (drop from xs) rest) e

module _ (m : ℕ) (text rest : List ℕ) (within : m ≤ length text) where
  abbrev cut : List ℕ
  cut = cut_at m text rest

  pub byte_same : (i : ℕ) → i < m → get_or cut i 0 ≡ get_or text i 0
  byte_same i less =
      let len : length (take m text) ≡ m = length-take-le m text within in
      let there : i < length (take m text) = omega (arith, len, less) in
      get_or-append (take m text) (32 ∷ rest) 0 i there ∙ get_or-take m text i 0 less

  byte_blank : get_or cut m 0 ≡ 32
  byte_blank =
      let len : length (take m text) ≡ m = length-take-le m text within in
      ap (λ k. get_or cut k 0) (sym len) ∙ get_or-append_seam (take m text) 32 rest 0

  digits_end_same : (from : ℕ) → digits_end from text ≤ m → digits_end from cut ≡ digits_end from text
  digits_end_same from h =
      let n : ℕ = prefix_len is_ascii_digit (drop from text) in
      let inside : from ≤ m = omega (arith, h) in
      let room : n ≤ m - from = omega (arith, h) in
      ap (λ l. from + prefix_len is_ascii_digit l) (drop_cut from m text rest inside within)
      ∙ ap (λ k. from + k) (digits_cut (m - from) (drop from text) rest room)

  -- digits that are required
  some_more : (from w : ℕ) (none : Bool) → digits_end from text == from ≡ none → some_digits from text ≡ Some w → (digits_end from text ≡ w) × (from < w)
  some_more from w true none e = absurd (none-some w (sym (cond-true (digits_end from text == from) None (Some (digits_end from text)) none) ∙ e))
  some_more from w false none e =
      let is : digits_end from text ≡ w =
      same_Some (digits_end from text) w (sym (cond-false (digits_end from text == from) None (Some (digits_end from text)) none) ∙ e) in
      (is, omega (arith, eqb-false (digits_end from text) from none, is))

  digits_same : (from w : ℕ) → some_digits from text ≡ Some w → w ≤ m → (some_digits from cut ≡ Some w) × (from < w)
  digits_same from w e h =
      let is = some_more from w (digits_end from text == from) refl e in
      let room : digits_end from text ≤ m = omega (arith, is.0, h) in
      (ap (λ k. if k == from then None else Some k) (digits_end_same from room) ∙ e, is.1)

  whole_same : (from w : ℕ) → whole_end from text ≡ Some w → w ≤ m → (whole_end from cut ≡ Some w) × (from < w)
  whole_same from w e h = by (get_or text from 0 == 48) refl
    where
      by : (zero_first : Bool) → get_or text from 0 == 48 ≡ zero_first → (whole_end from cut ≡ Some w) × (from < w)
      by true is =
          let w_is : from + 1 ≡ w = same_Some (from + 1) w (sym (cond-true (get_or text from 0 == 48) (Some (from + 1)) (some_digits from text) is) ∙ e) in
          let less : from < m = omega (arith, w_is, h) in
          let more : from < w = omega (arith, w_is) in
          (cond-true (get_or cut from 0 == 48) (Some (from + 1)) (some_digits from cut) (ap (λ b. b == 48) (byte_same from less) ∙ is) ∙ ap Some w_is, more)
      by false is =
          let digits = digits_same from w (sym (cond-false (get_or text from 0 == 48) (Some (from + 1)) (some_digits from text) is) ∙ e) h in
          let less : from < m = omega (arith, digits.1, h) in
          (cond-false (get_or cut from 0 == 48) (Some (from + 1)) (some_digits from cut) (ap (λ b. b == 48) (byte_same from less) ∙ is) ∙ digits.0, digits.1)

  -- a byte that fails a test in the text also fails it in the cut text, if a blank fails it
  test_false : (p : ℕ → Bool) (at : ℕ) → p 32 ≡ false → p (get_or text at 0) ≡ false → at ≤ m → p (get_or cut at 0) ≡ false
  test_false p at blank other h =
      ⊎_elim
      (λ less. ap p (byte_same at less) ∙ other)
      (λ past. let e : at ≡ m = omega (arith, past, h) in ap (λ k. p (get_or cut k 0)) e ∙ ap p byte_blank ∙ blank)
      (cases_lt at m)

  fraction_same : (from w : ℕ) → fraction_end from text ≡ Some w → w ≤ m → (fraction_end from cut ≡ Some w) × (from ≤ w)
  fraction_same from w e h = by (get_or text from 0 == 46) refl
    where
      by : (point : Bool) → get_or text from 0 == 46 ≡ point → (fraction_end from cut ≡ Some w) × (from ≤ w)
      by true is =
          let digits = digits_same (from + 1) w (sym (cond-true (get_or text from 0 == 46) (some_digits (from + 1) text) (Some from) is) ∙ e) h in
          let less : from < m = omega (arith, digits.1, h) in
          let more : from ≤ w = omega (arith, digits.1) in
          (cond-true (get_or cut from 0 == 46) (some_digits (from + 1) cut) (Some from) (ap (λ b. b == 46) (byte_same from less) ∙ is) ∙ digits.0, more)
      by false is =
          let w_is : from ≡ w = same_Some from w (sym (cond-false (get_or text from 0 == 46) (some_digits (from + 1) text) (Some from) is) ∙ e) in
          let inside : from ≤ m = omega (arith, w_is, h) in
          let more : from ≤ w = omega (arith, w_is) in
          (cond-false (get_or cut from 0 == 46) (some_digits (from + 1) cut) (Some from) (test_false (λ b. b == 46) from refl is inside) ∙ ap Some w_is, more)

  abbrev is_e : ℕ → Bool
  is_e b = b == 101 || b == 69

  abbrev is_sign : ℕ → Bool
  is_sign b = b == 43 || b == 45

  abbrev power_end : ℕ → List ℕ → Option ℕ
  power_end from bytes = if is_sign (get_or bytes (from + 1) 0) then some_digits (from + 2) bytes else some_digits (from + 1) bytes

  power_same : (from w : ℕ) → power_end from text ≡ Some w → w ≤ m → (power_end from cut ≡ Some w) × (from + 1 < w)
  power_same from w e h = by (is_sign (get_or text (from + 1) 0)) refl
    where
      by : (sign : Bool) → is_sign (get_or text (from + 1) 0) ≡ sign → (power_end from cut ≡ Some w) × (from + 1 < w)
      by true is =
          let digits = digits_same (from + 2) w
          (sym (cond-true (is_sign (get_or text (from + 1) 0)) (some_digits (from + 2) text) (some_digits (from + 1) text) is) ∙ e) h in
          let less : from + 1 < m = omega (arith, digits.1, h) in
          let more : from + 1 < w = omega (arith, digits.1) in (
            cond-true (is_sign (get_or cut (from + 1) 0)) (some_digits (from + 2) cut) (some_digits (from + 1) cut)
                (ap is_sign (byte_same (from + 1) less) ∙ is) ∙ digits.0,
            more,
          )
      by false is =
          let digits = digits_same (from + 1) w
          (sym (cond-false (is_sign (get_or text (from + 1) 0)) (some_digits (from + 2) text) (some_digits (from + 1) text) is) ∙ e) h in
          let less : from + 1 < m = omega (arith, digits.1, h) in (
            cond-false (is_sign (get_or cut (from + 1) 0)) (some_digits (from + 2) cut) (some_digits (from + 1) cut)
                (ap is_sign (byte_same (from + 1) less) ∙ is) ∙ digits.0,
            digits.1,
          )

  exponent_same : (from w : ℕ) → exponent_end from text ≡ Some w → w ≤ m → (exponent_end from cut ≡ Some w) × (from ≤ w)
  exponent_same from w e h = by (is_e (get_or text from 0)) refl
    where
      by : (power : Bool) → is_e (get_or text from 0) ≡ power → (exponent_end from cut ≡ Some w) × (from ≤ w)
      by true is =
          let digits = power_same from w (sym (cond-true (is_e (get_or text from 0)) (power_end from text) (Some from) is) ∙ e) h in
          let less : from < m = omega (arith, digits.1, h) in
          let more : from ≤ w = omega (arith, digits.1) in
          (cond-true (is_e (get_or cut from 0)) (power_end from cut) (Some from) (ap is_e (byte_same from less) ∙ is) ∙ digits.0, more)
      by false is =
          let w_is : from ≡ w = same_Some from w (sym (cond-false (is_e (get_or text from 0)) (power_end from text) (Some from) is) ∙ e) in
          let inside : from ≤ m = omega (arith, w_is, h) in
          let more : from ≤ w = omega (arith, w_is) in
          (cond-false (is_e (get_or cut from 0)) (power_end from cut) (Some from) (test_false is_e from refl is inside) ∙ ap Some w_is, more)

  decimals_same : (whole w : ℕ) → decimals_end whole text ≡ Some w → w ≤ m → (decimals_end whole cut ≡ Some w) × (whole ≤ w)
  decimals_same whole w e h =
      option_and_then_some (λ end. exponent_end end text) (fraction_end whole text) w e
      (λ end is there.
      let exponent = exponent_same end w there h in
      let room : end ≤ m = omega (arith, exponent.1, h) in
      let fraction = fraction_same whole end is room in
      let more : whole ≤ w = omega (arith, exponent.1, fraction.1) in
      (ap (option_and_then (λ k. exponent_end k cut)) fraction.0 ∙ exponent.0, more))

  start_same : 0 < m → unsigned_start cut ≡ unsigned_start text
  start_same some = ap (λ b. if b == 45 then 1 else 0) (byte_same 0 some)

  -- a number ends at the same offset
  number_end_same : (n : ℕ × Bool) → number_end text ≡ Some n → n.0 ≤ m → number_end cut ≡ Some n
  number_end_same n e h =
      option_and_then_some (λ whole. option_map (λ end. (end, end == whole)) (decimals_end whole text)) (whole_end (unsigned_start text) text) n e
      (λ whole is there. by whole is (decimals_end whole text) refl there)
    where
      by : (whole : ℕ) → whole_end (unsigned_start text) text ≡ Some whole → (found : Option ℕ) → decimals_end whole text ≡ found →
          option_map (λ end. (end, end == whole)) found ≡ Some n → number_end cut ≡ Some n
      by whole is None there same = absurd (none-some n same)
      by whole is (Some end) there same =
          let end_is : end ≡ n.0 = ap (λ p. p.0) (same_Some {A = ℕ × Bool} (end, end == whole) n same) in
          let room : end ≤ m = omega (arith, end_is, h) in
          let decimals = decimals_same whole end there room in
          let inside : whole ≤ m = omega (arith, decimals.1, room) in
          let first = whole_same (unsigned_start text) whole is inside in
          let some : 0 < m = omega (arith, first.1, inside) in
          ap (λ k. option_and_then (λ w. option_map (λ e. (e, e == w)) (decimals_end w cut)) (whole_end k cut)) (start_same some)
          ∙ ap (option_and_then (λ w. option_map (λ e. (e, e == w)) (decimals_end w cut))) first.0
          ∙ ap (option_map (λ e. (e, e == whole))) decimals.0 ∙ same

  pub number_same : (r : Plain × ℕ) → number_at text ≡ Some r → r.1 ≤ m → number_at cut ≡ Some r
  unfolding number_at
  number_same r e h =
      option_and_then_some (λ n. option_map (λ value. (value, n.0)) (number_value n.1 (take n.0 text))) (number_end text) r e
      (λ n is there. by n is (number_value n.1 (take n.0 text)) refl there)
    where
      by : (n : ℕ × Bool) → number_end text ≡ Some n → (found : Option Plain) → number_value n.1 (take n.0 text) ≡ found →
          option_map (λ value. (value, n.0)) found ≡ Some r →
          option_and_then (λ k. option_map (λ value. (value, k.0)) (number_value k.1 (take k.0 cut))) (number_end cut) ≡ Some r
      by n is None there same = absurd (none-some r same)
      by n is (Some value) there same =
          let len_is : n.0 ≡ r.1 = ap (λ p. p.1) (same_Some {A = Plain × ℕ} (value, n.0) r same) in
          let room : n.0 ≤ m = omega (arith, len_is, h) in
          let taken : length (take m text) ≡ m = length-take-le m text within in
          let fits : n.0 ≤ length (take m text) = omega (arith, taken, room) in
          let front : take n.0 cut ≡ take n.0 text = take-append-le n.0 (take m text) (32 ∷ rest) fits ∙ take-take n.0 m text room in
          ap (option_and_then (λ k. option_map (λ value. (value, k.0)) (number_value k.1 (take k.0 cut)))) (number_end_same n is room)
          ∙ ap (λ l. option_map (λ v. (v, n.0)) (number_value n.1 l)) front ∙ ap (option_map (λ v. (v, n.0))) there ∙ same

-- ---- a number is in its text

within_text : (text : List ℕ) (at : ℕ) → (get_or text at 0 ≡ 0 → ⊥) → at < length text
within_text [] at h = absurd (h refl)
within_text (x ∷ xs) zero h = omega arith
within_text (x ∷ xs) (suc at) h = let less : at < length xs = within_text xs at h in omega (arith, less)

tested : (text : List ℕ) (at b : ℕ) → get_or text at 0 == suc b ≡ true → at < length text
tested text at b h = within_text text at (λ none. let e : get_or text at 0 ≡ suc b = eqb-true (get_or text at 0) (suc b) h in omega (arith, e, none))

digits_fit : (text : List ℕ) (from w : ℕ) → some_digits from text ≡ Some w → w ≤ length text
digits_fit text from w e =
    let len : length (drop from text) ≡ length text - from = length-drop from text in
    let fits : prefix_len is_ascii_digit (drop from text) ≤ length (drop from text) = prefix_len-le-length is_ascii_digit (drop from text) in
    ⊎_elim
    (λ none. absurd (none-some w (sym (cond-true (digits_end from text == from) None (Some (digits_end from text)) none) ∙ e)))
    (λ some.
    let is : digits_end from text ≡ w =
    same_Some (digits_end from text) w (sym (cond-false (digits_end from text == from) None (Some (digits_end from text)) some) ∙ e) in
    omega (arith, eqb-false (digits_end from text) from some, is, len, fits))
    (cases_Bool (digits_end from text == from))

whole_fits : (text : List ℕ) (from w : ℕ) → whole_end from text ≡ Some w → w ≤ length text
whole_fits text from w e =
    if_some (get_or text from 0 == 48) (Some (from + 1)) (some_digits from text) w e
    (λ zero_first is.
    let w_is : from + 1 ≡ w = same_Some (from + 1) w is in
    let less : from < length text = tested text from 47 zero_first in
    omega (arith, w_is, less))
    (λ other is. digits_fit text from w is)

fraction_fits : (text : List ℕ) (from w : ℕ) → fraction_end from text ≡ Some w → from ≤ length text → w ≤ length text
fraction_fits text from w e within =
    if_some (get_or text from 0 == 46) (some_digits (from + 1) text) (Some from) w e
    (λ point is. digits_fit text (from + 1) w is)
    (λ other is. let w_is : from ≡ w = same_Some from w is in omega (arith, w_is, within))

exponent_fits : (text : List ℕ) (from w : ℕ) → exponent_end from text ≡ Some w → from ≤ length text → w ≤ length text
exponent_fits text from w e within =
    if_some (get_or text from 0 == 101 || get_or text from 0 == 69)
    (if get_or text (from + 1) 0 == 43 || get_or text (from + 1) 0 == 45 then some_digits (from + 2) text else some_digits (from + 1) text) (Some from) w e
    (λ power is. if_some (get_or text (from + 1) 0 == 43 || get_or text (from + 1) 0 == 45) (some_digits (from + 2) text) (some_digits (from + 1) text) w is
    (λ sign there. digits_fit text (from + 2) w there) (λ none there. digits_fit text (from + 1) w there))
    (λ other is. let w_is : from ≡ w = same_Some from w is in omega (arith, w_is, within))

end_fits : (text : List ℕ) (n : ℕ × Bool) → number_end text ≡ Some n → n.0 ≤ length text
end_fits text n e =
    option_and_then_some (λ whole. option_map (λ end. (end, end == whole)) (decimals_end whole text)) (whole_end (unsigned_start text) text) n e
    (λ whole is there. by whole (whole_fits text (unsigned_start text) whole is) (decimals_end whole text) refl there)
  where
    by : (whole : ℕ) → whole ≤ length text → (found : Option ℕ) → decimals_end whole text ≡ found → option_map (λ end. (end, end == whole)) found ≡ Some n →
        n.0 ≤ length text
    by whole within None there same = absurd (none-some n same)
    by whole within (Some end) there same =
        let end_is : end ≡ n.0 = ap (λ p. p.0) (same_Some {A = ℕ × Bool} (end, end == whole) n same) in
        let fits : end ≤ length text =
        option_and_then_some (λ middle. exponent_end middle text) (fraction_end whole text) end there
        (λ middle is last. exponent_fits text middle end last (fraction_fits text whole middle is within)) in
        omega (arith, end_is, fits)

pub number_fits : (text : List ℕ) (r : Plain × ℕ) → number_at text ≡ Some r → r.1 ≤ length text
unfolding number_at
number_fits text r e =
    option_and_then_some (λ n. option_map (λ value. (value, n.0)) (number_value n.1 (take n.0 text))) (number_end text) r e
    (λ n is there. by n (end_fits text n is) (number_value n.1 (take n.0 text)) there)
  where
    by : (n : ℕ × Bool) → n.0 ≤ length text → (found : Option Plain) → option_map (λ value. (value, n.0)) found ≡ Some r → r.1 ≤ length text
    by n within None same = absurd (none-some r same)
    by n within (Some value) same =
        let len_is : n.0 ≡ r.1 = ap (λ p. p.1) (same_Some {A = Plain × ℕ} (value, n.0) r same) in omega (arith, len_is, within)
