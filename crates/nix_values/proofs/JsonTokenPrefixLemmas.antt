-- A token stays the same if the text after it, from some offset on, is replaced by a blank and any other bytes.
use Rattle.std.proofs.Common.{◌≡◌, ◌∙◌, ℕ, suc, ◌-◌, ◌≤◌, Bool, true, false, List, [], ◌∷◌, length, take, ap, sym, refl, arith, Option, Some, None}
use Rattle.std.specs.Prelude.{◌==◌, ◌||◌, ◌&&◌, nat_eq, codes, option_map, if◌then◌else◌}
use Rattle.std.specs.List.{starts_with}
use Rattle.std.specs.Str.{bytes_eq}
use Rattle.std.specs.Char.{is_ascii_digit}
use Rattle.std.proofs.lemmas.List.{take-append-le, take-take, length-take-le}
use Rattle.std.proofs.lemmas.Option.{none-some, same_Some}
use Rattle.nix_values.specs.Contents.{Plain, null, boolean}
use Rattle.nix_values.specs.JsonContent.{content}
use Rattle.nix_values.specs.JsonNumbers.{number_at}
use Rattle.nix_values.specs.Json.{Token, string, scalar, word_at, string_at, scalar_at, token_at}
use Rattle.nix_values.proofs.JsonPrefixLemmas.{if_some, if_kept, cut_at, number_same, number_fits}
use Rattle.nix_values.proofs.JsonStringPrefixLemmas.{content_fits, content_kept}

-- ---- keywords

word_same : (w text rest : List ℕ) (m : ℕ) → length w ≤ m → m ≤ length text → starts_with nat_eq (cut_at m text rest) w ≡ starts_with nat_eq text w
word_same w text rest m h within =
    let len : length (take m text) ≡ m = length-take-le m text within in
    let fits : length w ≤ length (take m text) = omega (arith, len, h) in
    ap (bytes_eq w) (take-append-le (length w) (take m text) (32 ∷ rest) fits ∙ take-take (length w) m text h)

abbrev false_at : List ℕ → Option (Token × ℕ)
false_at bytes = if starts_with nat_eq bytes (codes "false") then Some (scalar (boolean false), 5) else None

abbrev true_at : List ℕ → Option (Token × ℕ)
true_at bytes = if starts_with nat_eq bytes (codes "true") then Some (scalar (boolean true), 4) else false_at bytes

-- the length of a keyword
word_len : (t : Token) (n : ℕ) (r : Token × ℕ) → ◌≡◌ {A = Option (Token × ℕ)} (Some (t, n)) (Some r) → n ≡ r.1
word_len t n r e = ap (λ p. p.1) (same_Some {A = Token × ℕ} (t, n) r e)

false_len : (text : List ℕ) (r : Token × ℕ) → false_at text ≡ Some r → 5 ≡ r.1
false_len text r e =
    if_some (starts_with nat_eq text (codes "false")) (Some (scalar (boolean false), 5)) None r e
    (λ is found. word_len _ 5 r found) (λ other none. absurd (none-some r none))

true_len : (text : List ℕ) (r : Token × ℕ) → true_at text ≡ Some r → 4 ≤ r.1
true_len text r e =
    if_some (starts_with nat_eq text (codes "true")) (Some (scalar (boolean true), 4)) (false_at text) r e
    (λ is found. let len : 4 ≡ r.1 = word_len _ 4 r found in omega (arith, len)) (λ other more. let len : 5 ≡ r.1 = false_len text r more in omega (arith, len))

any_len : (text : List ℕ) (r : Token × ℕ) → word_at text ≡ Some r → 4 ≤ r.1
any_len text r e =
    if_some (starts_with nat_eq text (codes "null")) (Some (scalar null, 4)) (true_at text) r e
    (λ is found. let len : 4 ≡ r.1 = word_len _ 4 r found in omega (arith, len)) (λ other more. true_len text r more)

module _ (m : ℕ) (text rest : List ℕ) (r : Token × ℕ) (within : m ≤ length text) (room : r.1 ≤ m) where
  false_kept : false_at text ≡ Some r → false_at (cut_at m text rest) ≡ Some r
  false_kept e =
      let len : 5 ≡ r.1 = false_len text r e in
      let five : 5 ≤ m = omega (arith, len, room) in
      ap (λ c. if c then Some (scalar (boolean false), 5) else None) (word_same (codes "false") text rest m five within) ∙ e

  true_kept : true_at text ≡ Some r → true_at (cut_at m text rest) ≡ Some r
  true_kept e =
      let len : 4 ≤ r.1 = true_len text r e in
      let four : 4 ≤ m = omega (arith, len, room) in
      ap (λ c. if c then Some (scalar (boolean true), 4) else false_at (cut_at m text rest)) (word_same (codes "true") text rest m four within)
      ∙ if_kept (starts_with nat_eq text (codes "true")) (Some (scalar (boolean true), 4)) (Some (scalar (boolean true), 4)) (false_at text)
      (false_at (cut_at m text rest)) r e (λ found. found) false_kept

  pub word_kept : word_at text ≡ Some r → word_at (cut_at m text rest) ≡ Some r
  word_kept e =
      let len : 4 ≤ r.1 = any_len text r e in
      let four : 4 ≤ m = omega (arith, len, room) in
      ap (λ c. if c then Some (scalar null, 4) else true_at (cut_at m text rest)) (word_same (codes "null") text rest m four within)
      ∙ if_kept (starts_with nat_eq text (codes "null")) (Some (scalar null, 4)) (Some (scalar null, 4)) (true_at text) (true_at (cut_at m text rest)) r e
      (λ found. found) true_kept

-- if both of two tests pass, the second does
and_right : (a b : Bool) → a && b ≡ true → b ≡ true
and_right true b e = e
and_right false b e = absurd (cc)

word_within : (w text : List ℕ) → starts_with nat_eq text w ≡ true → length w ≤ length text
word_within [] text e = omega arith
word_within (c ∷ w) [] e = absurd (cc)
word_within (c ∷ w) (x ∷ text) e =
    let less : length w ≤ length text = word_within w text (and_right (nat_eq c x) (starts_with nat_eq text w) e) in omega (arith, less)

word_fits : (text : List ℕ) (r : Token × ℕ) → word_at text ≡ Some r → r.1 ≤ length text
word_fits text r e =
    if_some (starts_with nat_eq text (codes "null")) (Some (scalar null, 4)) (true_at text) r e
    (λ is found. fits 4 (word_len _ 4 r found) (word_within (codes "null") text is))
    (λ other more. if_some (starts_with nat_eq text (codes "true")) (Some (scalar (boolean true), 4)) (false_at text) r more
    (λ is found. fits 4 (word_len _ 4 r found) (word_within (codes "true") text is))
    (λ last rest. if_some (starts_with nat_eq text (codes "false")) (Some (scalar (boolean false), 5)) None r rest
    (λ is found. fits 5 (word_len _ 5 r found) (word_within (codes "false") text is))
    (λ none found. absurd (none-some r found))))
  where
    fits : (n : ℕ) → n ≡ r.1 → n ≤ length text → r.1 ≤ length text
    fits n is less = omega (arith, is, less)

-- ---- strings and numbers

string_part : (found : Option (List ℕ × ℕ)) (r : Token × ℕ) → option_map (λ x. (string x.0, suc x.1)) found ≡ Some r →
    (x : List ℕ × ℕ) × (found ≡ Some x) × (suc x.1 ≡ r.1)
string_part None r e = absurd (none-some r e)
string_part (Some x) r e = (x, refl, ap (λ p. p.1) (same_Some {A = Token × ℕ} (string x.0, suc x.1) r e))

scalar_part : (found : Option (Plain × ℕ)) (r : Token × ℕ) → option_map (λ x. (scalar x.0, x.1)) found ≡ Some r →
    (x : Plain × ℕ) × (found ≡ Some x) × (x.1 ≡ r.1)
scalar_part None r e = absurd (none-some r e)
scalar_part (Some x) r e = (x, refl, ap (λ p. p.1) (same_Some {A = Token × ℕ} (scalar x.0, x.1) r e))

string_kept : (bs : List ℕ) (m : ℕ) (rest : List ℕ) (r : Token × ℕ) → m ≤ length bs → r.1 - 1 ≤ m → string_at bs ≡ Some r →
    string_at (cut_at m bs rest) ≡ Some r
string_kept bs m rest r within room e =
    let x = string_part (content 0 bs) r e in
    let less : x.0.1 ≤ m = omega (arith, x.2, room) in
    ap (option_map (λ k. (string k.0, suc k.1))) (content_kept 0 bs m rest x.0 x.1 less within)
    ∙ sym (ap (option_map (λ k. (string k.0, suc k.1))) x.1) ∙ e

scalar_kept : (b : ℕ) (bs : List ℕ) (m : ℕ) (rest : List ℕ) (r : Token × ℕ) → m ≤ length bs → r.1 - 1 ≤ m → scalar_at (b ∷ bs) ≡ Some r →
    scalar_at (b ∷ cut_at m bs rest) ≡ Some r
scalar_kept b bs m rest r within room e =
    let x = scalar_part (number_at (b ∷ bs)) r e in
    let less : x.0.1 ≤ suc m = omega (arith, x.2, room) in
    let inside : suc m ≤ length (b ∷ bs) = omega (arith, within) in
    ap (option_map (λ k. (scalar k.0, k.1))) (number_same (suc m) (b ∷ bs) rest inside x.0 x.1 less)
    ∙ sym (ap (option_map (λ k. (scalar k.0, k.1))) x.1) ∙ e

-- ---- tokens

pub token_kept : (b : ℕ) (bs : List ℕ) (m : ℕ) (rest : List ℕ) (r : Token × ℕ) → m ≤ length bs → r.1 - 1 ≤ m → token_at b bs ≡ Some r →
    token_at b (cut_at m bs rest) ≡ Some r
unfolding token_at
token_kept b bs m rest r within room e =
    let more : r.1 ≤ suc m = omega (arith, room) in
    let inside : suc m ≤ length (b ∷ bs) = omega (arith, within) in
    if_kept (b == 91) _ _ _ _ r e (λ k. k) (λ e. if_kept (b == 123) _ _ _ _ r e (λ k. k) (λ e. if_kept (b == 93) _ _ _ _ r e (λ k. k)
    (λ e. if_kept (b == 125) _ _ _ _ r e (λ k. k) (λ e. if_kept (b == 44) _ _ _ _ r e (λ k. k) (λ e. if_kept (b == 58) _ _ _ _ r e (λ k. k)
    (λ e. if_kept (b == 34) (string_at bs) (string_at (cut_at m bs rest)) _ _ r e (λ k. string_kept bs m rest r within room k)
    (λ e. if_kept (b == 45 || is_ascii_digit b) (scalar_at (b ∷ bs)) (scalar_at (b ∷ cut_at m bs rest)) (word_at (b ∷ bs)) (word_at (b ∷ cut_at m bs rest)) r e
    (λ k. scalar_kept b bs m rest r within room k) (λ k. word_kept (suc m) (b ∷ bs) rest r inside more k))))))))

one_fits : (t : Token) (bs : List ℕ) (r : Token × ℕ) → ◌≡◌ {A = Option (Token × ℕ)} (Some (t, 1)) (Some r) → r.1 - 1 ≤ length bs
one_fits t bs r e = let len : 1 ≡ r.1 = word_len t 1 r e in omega (arith, len)

pub token_fits : (b : ℕ) (bs : List ℕ) (r : Token × ℕ) → token_at b bs ≡ Some r → r.1 - 1 ≤ length bs
unfolding token_at
token_fits b bs r e =
    if_some (b == 91) _ _ r e (λ c k. one_fits _ bs r k) (λ c e. if_some (b == 123) _ _ r e (λ c k. one_fits _ bs r k)
    (λ c e. if_some (b == 93) _ _ r e (λ c k. one_fits _ bs r k) (λ c e. if_some (b == 125) _ _ r e (λ c k. one_fits _ bs r k)
    (λ c e. if_some (b == 44) _ _ r e (λ c k. one_fits _ bs r k) (λ c e. if_some (b == 58) _ _ r e (λ c k. one_fits _ bs r k)
    (λ c e. if_some (b == 34) (string_at bs) _ r e
    (λ c k. let x = string_part (content 0 bs) r k in let less = (content_fits 0 bs x.0 x.1).1 in omega (arith, x.2, less))
    (λ c e. if_some (b == 45 || is_ascii_digit b) (scalar_at (b ∷ bs)) (word_at (b ∷ bs)) r e
    (λ c k. let x = scalar_part (number_at (b ∷ bs)) r k in let less : x.0.1 ≤ suc (length bs) = number_fits (b ∷ bs) x.0 x.1 in omega (arith, x.2, less))
    (λ c k. let less : r.1 ≤ suc (length bs) = word_fits (b ∷ bs) r k in omega (arith, less)))))))))
