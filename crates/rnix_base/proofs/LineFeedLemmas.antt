-- Carriage returns of a text in `"`, character by character.
use Rattle.std.proofs.Common.{◌≡◌, ◌≢◌, ◌<◌, ◌≤◌, ◌++◌, ◌∙◌, inl, inr, ℕ, suc, Bool, true, false, not, ◌&&◌, ◌==◌, List, [], ◌∷◌, Option, Some, None, refl, sym, ap, length, get_or, arith}
use Rattle.std.proofs.{Common.append_assoc, lemmas.{Bool.{cases_lt, or_parts, Decides.nat_tests}, List.{append-nil, nil_from_length}, Str.{encode_ascii, inside_one}}}
use Rattle.std.specs.List.{list_any}
use Rattle.std.specs.Prelude.{encode_utf8, slice_index, if◌then◌else◌}
use Rattle.rnix_base.{specs.Value.{with_line_feeds, letter_with_line_feed}, proofs.EscapeLemmas.{IsCharacter, is_character}}

pub line_feeds-nil : (e : Bool) → with_line_feeds e [] ≡ []
unfolding with_line_feeds
line_feeds-nil e = refl

-- an escaped byte stays
line_feeds_escaped : (b : ℕ) (text : List ℕ) → with_line_feeds true (b ∷ text) ≡ b ∷ with_line_feeds false text
unfolding with_line_feeds
line_feeds_escaped b text = refl

line_feeds_byte : (b : ℕ) (text : List ℕ) → with_line_feeds false (b ∷ text) ≡
    (if b == 13 then (if slice_index text 0 == 10 then with_line_feeds false text else 10 ∷ with_line_feeds false text) else b ∷ with_line_feeds (b == 92) text)
unfolding with_line_feeds
line_feeds_byte b text = refl

-- a byte that is no carriage return, or is escaped, stays
line_feeds_other : (e : Bool) (b : ℕ) (text : List ℕ) → (b == 13 && not e) ≡ false → with_line_feeds e (b ∷ text) ≡ b ∷ with_line_feeds (b == 92 && not e) text
line_feeds_other true b text h = line_feeds_escaped b text ∙ ap (λ x. b ∷ with_line_feeds x text) (and_false (b == 92)) where
  and_false : (x : Bool) → false ≡ (x && false)
  and_false true = refl
  and_false false = refl
line_feeds_other false b text h =
    let other : (b == 13) ≡ false = grind (arith, nat_tests, h) in
    line_feeds_byte b text
    ∙ ap
    (λ x. if x then (if slice_index text 0 == 10 then with_line_feeds false text else 10 ∷ with_line_feeds false text)
    else b ∷ with_line_feeds (b == 92) text)
    other
    ∙ ap (λ x. b ∷ with_line_feeds x text) (and_true (b == 92)) where
      and_true : (x : Bool) → x ≡ (x && true)
      and_true true = refl
      and_true false = refl

-- a carriage return becomes a line feed, together with a line feed after it
pub line_feeds_return : (text : List ℕ) → with_line_feeds false (13 ∷ text) ≡
    (if slice_index text 0 == 10 then with_line_feeds false text else 10 ∷ with_line_feeds false text)
line_feeds_return text = line_feeds_byte 13 text

-- bytes of 128 and above stay
line_feeds_high : (bytes text : List ℕ) → ((k : ℕ) → k < length bytes → 128 ≤ get_or bytes k 0)
    → with_line_feeds false (bytes ++ text) ≡ bytes ++ with_line_feeds false text
line_feeds_high [] text high = refl
line_feeds_high (b ∷ bytes) text high =
    let first : 128 ≤ b = high 0 (omega arith) in
    let slash : (b == 92 && true) ≡ false = grind (arith, nat_tests, first) in
    line_feeds_other false b (bytes ++ text) (grind (arith, nat_tests, first)) ∙ ap (λ x. b ∷ with_line_feeds x (bytes ++ text)) slash
    ∙ ap (λ t. b ∷ t) (line_feeds_high bytes text (λ k i. high (suc k) (omega arith)))

-- a character of 128 or above stays, whether it is escaped or not
line_feeds_long : (e : Bool) (c : ℕ) (letter text : List ℕ) → IsCharacter letter → 128 ≤ c → letter ≡ encode_utf8 c → 128 ≤ get_or letter 0 0
    → with_line_feeds e (letter ++ text) ≡ letter ++ with_line_feeds false text
line_feeds_long e c letter text one big is first =
    let split : letter ≡ one.first ∷ one.more = one.split in
    let high : 128 ≤ one.first = omega (arith, first, ap (λ l. get_or l 0 0) split) in
    let slash : (one.first == 92 && not e) ≡ false = other 92 (omega arith) high e in
    ap (λ l. with_line_feeds e (l ++ text)) split ∙ line_feeds_other e one.first (one.more ++ text) (other 13 (omega arith) high e)
    ∙ ap (λ x. one.first ∷ with_line_feeds x (one.more ++ text)) slash
    ∙ ap (λ t. one.first ∷ t) (line_feeds_high one.more text one.high) ∙ ap (λ l. l ++ with_line_feeds false text) (sym split)
  where
    other : (n : ℕ) → n < 128 → 128 ≤ one.first → (e : Bool) → (one.first == n && not e) ≡ false
    other n low h true = grind (arith, nat_tests)
    other n low h false = grind (arith, nat_tests)

-- the first byte of a character of 128 and above is 128 or above
high_first : (c : ℕ) → 128 ≤ c → 128 ≤ get_or (encode_utf8 c) 0 0
high_first c big =
    let one = is_character c (encode_utf8 c) refl in
    let at : get_or (encode_utf8 c) 0 0 ≡ one.first = ap (λ l. get_or l 0 0) one.split in
    elim (cases_lt one.first 128) [
      | inr high ↦ omega (arith, high, at)
      | inl low ↦
          let same : c ≡ one.first = ascii_is c one.first one.more one.split low in
          absurd (omega (arith, same, low, big))
    ]
  where
    ascii_is : (c first : ℕ) (more : List ℕ) → encode_utf8 c ≡ first ∷ more → first < 128 → c ≡ first
    ascii_is c first more e low =
        inside_one c [] (first ∷ more) 0 (sym e ∙ sym (append-nil (encode_utf8 c))) (rw e (omega arith)) low

-- one more character
pub line_feeds_character : (e : Bool) (c : ℕ) (text : List ℕ) → with_line_feeds e (encode_utf8 c ++ text) ≡
    letter_with_line_feed c text e ++ with_line_feeds (c == 92 && not e) text
line_feeds_character e c text = elim (cases_lt c 128) [
  | inl low ↦ ap (λ l. with_line_feeds e (l ++ text)) (encode_ascii c low) ∙ by_return (c == 13 && not e) refl low
  | inr high ↦ line_feeds_long e c (encode_utf8 c) text (is_character c (encode_utf8 c) refl) high refl (high_first c high)
      ∙ ap (λ x. encode_utf8 c ++ with_line_feeds x text) (sym (big_other e high))
      ∙ ap (λ x. (if x then (if slice_index text 0 == 10 then [] else 10 ∷ []) else encode_utf8 c) ++ with_line_feeds (c == 92 && not e) text)
      (sym (big_return e high))
]
  where
    big_other : (e : Bool) → 128 ≤ c → (c == 92 && not e) ≡ false
    big_other true h = grind (arith, nat_tests)
    big_other false h = grind (arith, nat_tests)

    big_return : (e : Bool) → 128 ≤ c → (c == 13 && not e) ≡ false
    big_return true h = grind (arith, nat_tests)
    big_return false h = grind (arith, nat_tests)

    never : (x : Bool) → (x && false) ≡ true → ⊥
    never true h = absurd (cc)
    never false h = absurd (cc)

    by_return : (r : Bool) → (c == 13 && not e) ≡ r → c < 128
        → with_line_feeds e (c ∷ text) ≡ letter_with_line_feed c text e ++ with_line_feeds (c == 92 && not e) text
    by_return false h low =
        line_feeds_other e c text h ∙ ap (λ l. l ++ with_line_feeds (c == 92 && not e) text) (sym (encode_ascii c low))
        ∙ ap (λ x. (if x then (if slice_index text 0 == 10 then [] else 10 ∷ []) else encode_utf8 c) ++ with_line_feeds (c == 92 && not e) text) (sym h)
    by_return true h low = by_escape e h
      where
        by_escape : (e : Bool) → (c == 13 && not e) ≡ true
            → with_line_feeds e (c ∷ text) ≡ letter_with_line_feed c text e ++ with_line_feeds (c == 92 && not e) text
        by_escape true h = absurd (never (c == 13) h)
        by_escape false h = rest_by (slice_index text 0 == 10) refl
          where
            is : c ≡ 13
            is = grind (arith, nat_tests, h)

            rest_by : (f : Bool) → (slice_index text 0 == 10) ≡ f
                → with_line_feeds false (c ∷ text) ≡ letter_with_line_feed c text false ++ with_line_feeds (c == 92 && not false) text
            rest_by true f = rw (is) (line_feeds_return text ∙ ap (λ x. if x then with_line_feeds false text else 10 ∷ with_line_feeds false text) f
                ∙ ap (λ x. (if x then [] else 10 ∷ []) ++ with_line_feeds false text) (sym f))
            rest_by false f = rw (is) (line_feeds_return text ∙ ap (λ x. if x then with_line_feeds false text else 10 ∷ with_line_feeds false text) f
                ∙ ap (λ x. (if x then [] else 10 ∷ []) ++ with_line_feeds false text) (sym f))

-- a text without carriage returns stays
pub no_returns : (e : Bool) (text : List ℕ) → list_any (λ b. b == 13) text ≡ false → with_line_feeds e text ≡ text
no_returns e [] h = line_feeds-nil e
no_returns e (b ∷ text) h =
    let here : (b == 13 && not e) ≡ false = ap (λ x. x && not e) (or_parts _ _ h).0 in
    line_feeds_other e b text here ∙ ap (λ t. b ∷ t) (no_returns (b == 92 && not e) text (or_parts _ _ h).1)

-- one more character is written
pub line_feeds_kept : (text made rest more new : List ℕ) (e : Bool) (c : ℕ) → with_line_feeds false text ≡ made ++ with_line_feeds e rest
    → rest ≡ encode_utf8 c ++ more
    → new ≡ made ++ letter_with_line_feed c more e → with_line_feeds false text ≡ new ++ with_line_feeds (c == 92 && not e) more
line_feeds_kept text made rest more new e c h step is =
    h ∙ ap (λ t. made ++ with_line_feeds e t) step ∙ ap (λ t. made ++ t) (line_feeds_character e c more)
    ∙ sym (append_assoc made (letter_with_line_feed c more e) (with_line_feeds (c == 92 && not e) more))
    ∙ ap (λ t. t ++ with_line_feeds (c == 92 && not e) more) (sym is)

-- all characters are written
pub all_line_feeds : (text made rest : List ℕ) (e : Bool) → with_line_feeds false text ≡ made ++ with_line_feeds e rest
    → length rest ≡ 0 → made ≡ with_line_feeds false text
all_line_feeds text made rest e h none =
    sym (h ∙ ap (λ t. made ++ with_line_feeds e t) (nil_from_length rest none) ∙ ap (λ t. made ++ t) (line_feeds-nil e) ∙ append-nil made)
