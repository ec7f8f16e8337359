-- The first piece of a text.
use Rattle.std.proofs.Common.{◌≡◌, ◌≢◌, ◌+◌, ◌-◌, ◌<◌, ◌≤◌, ◌++◌, ◌∙◌, ℕ, zero, suc, Bool, true, false, ◌==◌, List, [], ◌∷◌, Option, Some, None, refl, sym, ap}
use Rattle.std.proofs.{Common.{inl, inr, length, drop, get_or, codes, nat_lt, arith, length-append, add-one}, lemmas.Bool.{and_parts, cases_lt}}
use Rattle.std.proofs.lemmas.{Bool.Decides.nat_tests, List.{drop_more, get_or_past, append-nil, nil_from_length}, Str.{inside_one, length-encode}}
use Rattle.std.{proofs.lemmas.Str.{len_utf8_ascii, len_utf8_bounds}, specs.{Prelude.{encode_utf8, slice_index}, List.list_all, Char.len_utf8}}
use Rattle.{std.specs.{Option.MatchOption, Str.Pattern.{StripsPrefix, FindsTextPrefix, LacksTextAt, HasPrefixMatch}}, rnix_kinds.specs.Lexical.Texts.occurs_at}
use Rattle.{rnix_kinds.specs.Lexical.Texts.begins, rnix_base.specs.Escapes.{Piece, escaped, itself, first_piece, values, unescaped, Begins, Escapes, is_plain}}
use Rattle.std.{proofs.lemmas.{List.{get_or-take, Sums.{prefix_len-le-length, prefix_len_passes, prefix_len_stops}}, Str.{IsCharBoundary-end, IsCharBoundary-before_ascii}}}
use Rattle.std.{proofs.Common.{subst, take, length-drop, length-take-le, take-append-drop}, specs.{Str.IsCharBoundary, List.prefix_len}}
use denote.Ref.{Bor}

-- the bytes of a character: a first byte, and none below 128 after it
pub record IsCharacter (bytes : List ℕ) : Type 0 where
  pub first : ℕ
  pub more : List ℕ
  pub split : bytes ≡ first ∷ more
  pub high : (k : ℕ) → k < length more → 128 ≤ get_or more k 0
  pub alone : first < 128 → more ≡ []

ascii_alone : (c : ℕ) (first : ℕ) (more : List ℕ) (k : ℕ) → encode_utf8 c ≡ first ∷ more → k < suc (length more) → get_or (first ∷ more) k 0 < 128
    → length more ≡ 0
ascii_alone c first more k e h low =
    let same : c ≡ get_or (first ∷ more) k 0 = inside_one c [] (first ∷ more) k (sym e ∙ sym (append-nil (encode_utf8 c))) (rw e h) low in
    let one : len_utf8 c ≡ 1 = len_utf8_ascii c (omega arith) in
    omega (arith, length-encode c, ap length e)

high_behind : (c : ℕ) (first : ℕ) (more : List ℕ) (k : ℕ) → encode_utf8 c ≡ first ∷ more → k < length more → 128 ≤ get_or more k 0
high_behind c first more k e h =
    elim (cases_lt (get_or more k 0) 128) [
      | inl low ↦ absurd (omega (arith, ascii_alone c first more (suc k) e (omega arith) low))
      | inr high ↦ high
    ]

character_of : (c : ℕ) (bytes : List ℕ) → encode_utf8 c ≡ bytes → IsCharacter bytes
character_of c [] e = absurd (omega (arith, length-encode c, (len_utf8_bounds c).0, ap length e))
character_of c (first ∷ more) e = record {
  first = first;
  more = more;
  split = refl;
  high = λ k h. high_behind c first more k e h;
  alone = λ low. nil_from_length more (ascii_alone c first more 0 e (omega arith) low);
}

-- each character has such bytes
pub is_character : (c : ℕ) (bytes : List ℕ) → bytes ≡ encode_utf8 c → IsCharacter bytes
is_character c bytes e = character_of c bytes (sym e)

pub unescaped-nil : (m : Bool) → unescaped m [] ≡ []
unfolding values
unescaped-nil m = refl

-- a text that begins with no piece has an empty value
pub unescaped_ends : (m : Bool) (text : List ℕ) → first_piece m text ≡ None → unescaped m text ≡ []
unfolding values
unescaped_ends m [] e = refl
unescaped_ends m (b ∷ text) e = rw (e, values)

values_step : (m : Bool) (b : ℕ) (text : List ℕ) (p : Piece) → first_piece m (b ∷ text) ≡ Some p → unescaped m (b ∷ text) ≡ p.value ++ values m (p.len - 1) text
unfolding values
values_step m b text p e = rw (e, values)

values_inside : (m : Bool) (n : ℕ) (text : List ℕ) → values m n text ≡ unescaped m (drop n text)
unfolding values
values_inside m zero text = refl
values_inside m (suc n) [] = refl
values_inside m (suc n) (b ∷ text) = values_inside m n text

-- the value of a text is that of its first piece, and that of the rest
pub unescaped_step : (m : Bool) (b : ℕ) (text : List ℕ) (p : Piece) → first_piece m (b ∷ text) ≡ Some p → unescaped m (b ∷ text) ≡ p.value
    ++ unescaped m (drop (p.len - 1) text)
unescaped_step m b text p e = values_step m b text p e ∙ ap (λ t. p.value ++ t) (values_inside m (p.len - 1) text)

-- a byte of 128 or above stands for itself
high_piece : (m : Bool) (b : ℕ) (text : List ℕ) → 128 ≤ b → first_piece m (b ∷ text) ≡ Some record { len = 1; value = b ∷ [] }
high_piece true b text h = grind (arith, nat_tests)
high_piece false b text h = grind (arith, nat_tests)

unescaped_high : (m : Bool) (bytes text : List ℕ) → ((k : ℕ) → k < length bytes → 128 ≤ get_or bytes k 0) → unescaped m (bytes ++ text) ≡ bytes
    ++ unescaped m text
unescaped_high m [] text h = refl
unescaped_high m (b ∷ bytes) text h = unescaped_step m b (bytes ++ text) _ (high_piece m b (bytes ++ text) (h 0 (omega arith)))
    ∙ ap (λ t. b ∷ t) (unescaped_high m bytes text (λ k i. h (suc k) (omega arith)))

-- a plain byte stands for itself, and so does a run of them
plain_piece : (m : Bool) (b : ℕ) (text : List ℕ) → is_plain m b ≡ true → first_piece m (b ∷ text) ≡ Some record { len = 1; value = b ∷ [] }
plain_piece true b text h = grind (arith, nat_tests)
plain_piece false b text h = grind (arith, nat_tests)

unescaped_plain : (m : Bool) (bytes text : List ℕ) → ((k : ℕ) → k < length bytes → is_plain m (get_or bytes k 0) ≡ true)
    → unescaped m (bytes ++ text) ≡ bytes ++ unescaped m text
unescaped_plain m [] text h = refl
unescaped_plain m (b ∷ bytes) text h = unescaped_step m b (bytes ++ text) _ (plain_piece m b (bytes ++ text) (h 0 (omega arith)))
    ∙ ap (λ t. b ∷ t) (unescaped_plain m bytes text (λ k i. h (suc k) (omega arith)))

-- a byte that stands for itself, and the plain bytes after it
pub run_begins : (m : Bool) (b : ℕ) (text value rest : List ℕ) → first_piece m (b ∷ text) ≡ itself (b ∷ text)
    → value ≡ b ∷ take (prefix_len (is_plain m) text) text → rest ≡ drop (prefix_len (is_plain m) text) text → Begins m (b ∷ text) value rest
run_begins m b text value rest free e f =
    let n = prefix_len (is_plain m) text in
    let most = prefix_len-le-length (is_plain m) text in
    let plain : (k : ℕ) → k < length (take n text) → is_plain m (get_or (take n text) k 0) ≡ true =
    λ k l. let low : k < n = omega (arith, l, length-take-le n text most) in
    ap (is_plain m) (get_or-take n text k 0 low) ∙ prefix_len_passes (is_plain m) text k 0 low in
    let run : unescaped m text ≡ take n text ++ unescaped m (drop n text) =
    ap (unescaped m) (sym (take-append-drop n text)) ∙ unescaped_plain m (take n text) (drop n text) plain in
    record {
      split = rw (e, f) (unescaped_step m b text _ free ∙ ap (λ t. b ∷ t) run);
      shorter = omega (arith, ap length f, length-drop n text);
    }

-- such a run ends at a character boundary
pub run_boundary : (m : Bool) (b : ℕ) (text : List ℕ) → IsCharBoundary (b ∷ text) (suc (prefix_len (is_plain m) text))
run_boundary m b text =
    let n = prefix_len (is_plain m) text in
    elim (cases_lt n (length text)) [
      | inl within ↦ IsCharBoundary-before_ascii (b ∷ text) (suc n) (omega (arith, within))
          (low m (get_or text n 0) (prefix_len_stops (is_plain m) text 0 within))
      | inr all ↦
          let same : length (b ∷ text) ≡ suc n = omega (arith, prefix_len-le-length (is_plain m) text) in
          subst (IsCharBoundary (b ∷ text)) same (IsCharBoundary-end (b ∷ text))
    ]
  where
    low : (m : Bool) (b : ℕ) → is_plain m b ≡ false → b < 128
    low true b h = grind (arith, nat_tests)
    low false b h = grind (arith, nat_tests)

-- after a backslash a character stands for itself, unless it is `n`, `r` or `t`
pub character_escapes : (text value rest : List ℕ) → IsCharacter value → text ≡ value ++ rest → value ≢ codes "n" → value ≢ codes "r" → value ≢ codes "t"
    → Escapes text value rest
character_escapes text value rest one e n r t =
    let whole : text ≡ one.first ∷ (one.more ++ rest) = e ∙ ap (λ t. t ++ rest) one.split in
    let none : (b : ℕ) → b < 128 → value ≢ b ∷ [] → one.first ≢ b =
    λ b low other same. other (one.split ∙ ap (λ more. one.first ∷ more) (one.alone (omega arith)) ∙ ap (λ x. x ∷ []) same) in
    let same : escaped one.first ≡ one.first = grind (arith, nat_tests, none 110 (omega arith) n, none 114 (omega arith) r, none 116 (omega arith) t) in
    record {
      split = λ m. rw (whole, one.split, same) (ap (λ t. one.first ∷ t) (unescaped_high m one.more rest one.high));
      shorter = omega (arith, ap length whole, length-append one.more rest);
    }

-- after a backslash each of these letters stands for a control character
pub letter_escapes : (b : ℕ) (text value rest : List ℕ) → text ≡ b ∷ rest → value ≡ escaped b ∷ [] → Escapes text value rest
letter_escapes b text value rest e v = record {
  split = λ m. rw (e, v) refl;
  shorter = omega (arith, ap length e);
}

at_byte : (b i : ℕ) (text : List ℕ) → 0 < b → slice_index text i == b ≡ true → drop i text ≡ b ∷ drop (i + 1) text
at_byte b i text some e =
    let same : get_or text i 0 ≡ b = grind (arith, nat_tests) in
    elim (cases_lt i (length text)) [
      | inl within ↦ drop_more text i 0 within ∙ ap (λ x. x ∷ drop (i + 1) text) same
      | inr past ↦ absurd (omega (arith, get_or_past text i 0 past, same))
    ]

suc-both : (i n : ℕ) → suc i + suc n ≡ i + suc (suc n)
suc-both i n = omega arith

-- a text that has bytes at a position is what precedes them, the bytes, and what follows
occurrence_splits : (bytes : List ℕ) (i : ℕ) (text : List ℕ) → list_all (nat_lt 0) bytes ≡ true → occurs_at bytes i text ≡ true → drop i text ≡ bytes
    ++ drop (i + length bytes) text
occurrence_splits [] i text some e = ap (λ k. drop k text) (omega arith)
occurrence_splits (b ∷ []) i text some e = at_byte b i text (grind (arith, nat_tests)) e
occurrence_splits (b ∷ c ∷ bytes) i text some e =
    at_byte b i text (grind (arith, nat_tests)) (and_parts _ _ e).0
    ∙ ap (λ t. b ∷ t) (ap (λ k. drop k text) (add-one i) ∙ occurrence_splits (c ∷ bytes) (suc i) text (and_parts _ _ some).1 (and_parts _ _ e).1
    ∙ ap (λ k. (c ∷ bytes) ++ drop k text) (suc-both i (length bytes)))

-- a text that is not these bytes and a rest does not begin with them
pub not_begun : (bytes text : List ℕ) → list_all (nat_lt 0) bytes ≡ true → ((rest : List ℕ) → text ≢ bytes ++ rest) → begins bytes text ≡ false
not_begun bytes text some none =
    elim (begins bytes text) as (λ b. begins bytes text ≡ b → begins bytes text ≡ false) [
      | true ↦ λ e. absurd (none (drop (0 + length bytes) text) (occurrence_splits bytes 0 text some e))
      | false ↦ λ e. e
    ] refl

-- a text that begins with these bytes has a rest after them
pub strip_gives : (bytes text rest : List ℕ) → StripsPrefix (FindsTextPrefix bytes) text rest → text ≡ bytes ++ rest
strip_gives bytes text rest h = h.1.1 ∙ ap (λ t. bytes ++ t) (sym h.2)

-- a text that begins with `'''` begins with an escape of `''`
pub primes_begin : (text rest : List ℕ) → text ≡ codes "'''" ++ rest → Begins true text (codes "''") rest
primes_begin text rest e = record {
  split = rw e (unescaped_step true 39 (39 ∷ 39 ∷ rest) _ refl);
  shorter = omega (arith, ap length e);
}

pub dollar_begins : (text rest : List ℕ) → text ≡ codes "''$" ++ rest → Begins true text (codes "$") rest
dollar_begins text rest e = record {
  split = rw e (unescaped_step true 39 (39 ∷ 36 ∷ rest) _ refl);
  shorter = omega (arith, ap length e);
}

-- what begins an escape of any character: `''\` in a string in `''`, otherwise a backslash
abbrev pub opener : Bool → List ℕ
opener true = codes "''\\"
opener false = codes "\\"

escape_piece : (m : Bool) (b : ℕ) (rest : List ℕ) → unescaped m (opener m ++ b ∷ rest) ≡ escaped b ∷ unescaped m rest
escape_piece true b rest = unescaped_step true 39 (39 ∷ 92 ∷ b ∷ rest) record { len = 4; value = escaped b ∷ [] } (grind (arith, nat_tests))
escape_piece false b rest = unescaped_step false 92 (b ∷ rest) record { len = 2; value = escaped b ∷ [] } (grind (arith, nat_tests))

escape_ends : (m : Bool) → unescaped m (opener m) ≡ []
escape_ends true = unescaped_ends true _ refl
escape_ends false = unescaped_ends false _ refl

escape_opens : (m : Bool) (text more value rest : List ℕ) → text ≡ opener m ++ more → Escapes more value rest → Begins m text value rest
escape_opens m text [] value rest e h = absurd (omega (arith, h.shorter))
escape_opens m text (b ∷ more) value rest e h = record {
  split = rw e (escape_piece m b more ∙ h.split m);
  shorter = omega (arith, ap length e, h.shorter, length-append (opener m) (b ∷ more));
}

pub escape_begins : (m : Bool) (text more : List ℕ) (r : Option (Bor (List ℕ) × Bor (List ℕ))) → text ≡ opener m ++ more
    → MatchOption r (more ≡ []) (λ p. Escapes more p.0.now p.1.now)
    → MatchOption r (unescaped m text ≡ []) (λ p. Begins m text p.0.now p.1.now)
escape_begins m text more None e h = rw (e, h) (ap (unescaped m) (append-nil (opener m)) ∙ escape_ends m)
escape_begins m text more (Some p) e h = escape_opens m text more p.0.now p.1.now e h

-- what the tests of a text in `''` decide
pub primes_end : (text : List ℕ) → LacksTextAt (codes "'''") text 0 → LacksTextAt (codes "''$") text 0 → LacksTextAt (codes "''\\") text 0
    → HasPrefixMatch (FindsTextPrefix (codes "''")) text → unescaped true text ≡ []
primes_end text a b c h =
    let two : begins (codes "''") text ≡ true = rw h.1.1 refl in
    unescaped_ends true text (rw (not_begun _ text refl a, not_begun _ text refl b, not_begun _ text refl c, two) refl)

pub primes_free : (text : List ℕ) → LacksTextAt (codes "'''") text 0 → LacksTextAt (codes "''$") text 0 → LacksTextAt (codes "''\\") text 0
    → LacksTextAt (codes "''") text 0 → first_piece true text ≡ itself text
primes_free text a b c d = rw (not_begun _ text refl a, not_begun _ text refl b, not_begun _ text refl c, not_begun _ text refl d) refl

-- what the test of a text in `"` decides
pub quote_end : (text : List ℕ) → HasPrefixMatch (FindsTextPrefix (codes "\"")) text → unescaped false text ≡ []
quote_end text h =
    let one : begins (codes "\"") text ≡ true = rw h.1.1 refl in
    unescaped_ends false text (rw one refl)

pub quote_free : (text : List ℕ) → LacksTextAt (codes "\"") text 0 → LacksTextAt (codes "\\") text 0 → first_piece false text ≡ itself text
quote_free text a b = rw (not_begun _ text refl a, not_begun _ text refl b) refl
