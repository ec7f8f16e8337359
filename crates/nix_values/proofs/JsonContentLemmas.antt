-- JSON strings that are read run by run.
use Rattle.std.proofs.Common.{◌≡◌, ◌∙◌, ℕ, zero, suc, ◌+◌, ◌-◌, ◌<◌, ◌≤◌, true, false, Bool, List, [], ◌∷◌, ◌++◌, length, get_or, take, drop, ap, ap₂, sym, refl, arith, inl, inr, ne_eqb, append_assoc, append-nil, Option, Some, None}
use Rattle.std.specs.Prelude.{not, ◌&&◌, if◌then◌else◌, ◌==◌, nat_lt}
use Rattle.std.specs.Char.{encode_utf8, InScalarRange, OutOfScalarRange}
use Rattle.std.specs.List.{prefix_len}
use Rattle.std.proofs.lemmas.List.{length-drop, get_or-drop}
use Rattle.std.proofs.lemmas.List.Sums.{prefix_len_stops}
use Rattle.std.proofs.lemmas.{Bool.{cond-true, cond-false}, Bool.Decides.nat_tests}
use Rattle.nix_values.specs.JsonEscapes.{is_plain}
use Rattle.nix_values.specs.JsonContent.{is_high, is_low, escaped_unit, escape_at, behind, content}

-- a prefix of no bytes changes nothing
behind_none : (x : Option (List ℕ × ℕ)) → behind [] 0 x ≡ x
behind_none None = refl
behind_none (Some r) = let e : 0 + r.1 ≡ r.1 = omega arith in ap (λ n. Some (r.0, n)) e

-- two prefixes, one before the other
pub behind_twice : (v w : List ℕ) (m n : ℕ) (x : Option (List ℕ × ℕ)) → behind v m (behind w n x) ≡ behind (v ++ w) (m + n) x
behind_twice v w m n None = refl
behind_twice v w m n (Some r) =
    let e : m + (n + r.1) ≡ m + n + r.1 = omega arith in ap₂ (λ (t : List ℕ) (k : ℕ). Some (t, k)) (sym (append_assoc v w r.0)) e

-- skipping bytes
content_after : (n : ℕ) (bs : List ℕ) → n ≤ length bs → content n bs ≡ behind [] n (content 0 (drop n bs))
unfolding content
content_after zero bs h = sym (behind_none (content 0 bs))
content_after (suc n) [] h = absurd (omega (arith, h))
content_after (suc n) (b ∷ bs) h =
    let rest : n ≤ length bs = omega (arith, h) in
    let e : 1 + n ≡ suc n = omega arith in
    ap (behind [] 1) (content_after n bs rest) ∙ behind_twice [] [] 1 n (content 0 (drop n bs)) ∙ ap (λ k. behind [] k (content 0 (drop n bs))) e

-- if three tests fail, the last of four choices is taken
last_of_four : {A : Type 0} (x y z : Bool) (p q r s : A) → not z && (not x && not y) ≡ true → (if x then p else (if y then q else (if z then r else s))) ≡ s
last_of_four false false false p q r s h = refl
last_of_four true y false p q r s h = absurd (cc)
last_of_four false true false p q r s h = absurd (cc)
last_of_four x y true p q r s h = absurd (cc)

-- a byte that needs no escape
plain_byte : (b : ℕ) (bs : List ℕ) → is_plain b ≡ true → content 0 (b ∷ bs) ≡ behind (b ∷ []) 1 (content 0 bs)
unfolding content
plain_byte b bs h = last_of_four (b == 34) (b == 92) (nat_lt b 32) _ _ _ _ h

-- the plain bytes at the beginning are their own value; so they are with one more byte in front, plain or not
abbrev RunsOf : List ℕ → Type 0
RunsOf bs = content 0 bs ≡ behind (take (prefix_len is_plain bs) bs) (prefix_len is_plain bs) (content 0 (drop (prefix_len is_plain bs) bs))

plain_front : (b : ℕ) (bs : List ℕ) (e : Bool) → is_plain b ≡ e → RunsOf bs → RunsOf (b ∷ bs)
plain_front b bs false h rest = rw h (sym (behind_none (content 0 (b ∷ bs))))
plain_front b bs true h rest = rw h (plain_more b bs (prefix_len is_plain bs) h rest)
  where
    plain_more : (b : ℕ) (bs : List ℕ) (n : ℕ) → is_plain b ≡ true → content 0 bs ≡ behind (take n bs) n (content 0 (drop n bs))
        → content 0 (b ∷ bs) ≡ behind (take (1 + n) (b ∷ bs)) (1 + n) (content 0 (drop (1 + n) (b ∷ bs)))
    plain_more b bs n h rest =
        let e : suc n ≡ 1 + n = omega arith in
        plain_byte b bs h ∙ ap (behind (b ∷ []) 1) rest ∙ behind_twice (b ∷ []) (take n bs) 1 n (content 0 (drop n bs))
        ∙ ap (λ k. behind (take k (b ∷ bs)) (1 + n) (content 0 (drop k (b ∷ bs)))) e

-- a run of bytes that need no escape
pub plain_run : (bs : List ℕ)
    → content 0 bs ≡ behind (take (prefix_len is_plain bs) bs) (prefix_len is_plain bs) (content 0 (drop (prefix_len is_plain bs) bs))
plain_run [] = sym (behind_none (content 0 []))
plain_run (b ∷ bs) = plain_front b bs (is_plain b) refl (plain_run bs)

-- an escape at the beginning
escape_first : (bs : List ℕ) (c n : ℕ) → escape_at bs ≡ Some (c, n) → n ≤ length bs
    → content 0 (92 ∷ bs) ≡ behind (encode_utf8 c) (1 + n) (content 0 (drop n bs))
unfolding content
escape_first bs c n h within =
    rw h (ap (behind (encode_utf8 c) 1) (content_after n bs within) ∙ behind_twice (encode_utf8 c) [] 1 n (content 0 (drop n bs))
    ∙ ap (λ v. behind v (1 + n) (content 0 (drop n bs))) (append-nil (encode_utf8 c)))

-- the text is read as a value, and `rest` remains
pub record IsReadTo (text value rest : List ℕ) : Type 0 where
  pub within : length rest ≤ length text
  pub same : content 0 text ≡ behind value (length text - length rest) (content 0 rest)

-- nothing has been read
pub read_none : (text : List ℕ) → IsReadTo text [] text
read_none text = record {
  within = omega arith;
  same = let e : 0 ≡ length text - length text = omega arith in sym (behind_none (content 0 text)) ∙ ap (λ n. behind [] n (content 0 text)) e;
}

-- one more run is read
pub read_run : (text value rest mid remaining : List ℕ) → IsReadTo text value rest → remaining ≡ drop (prefix_len is_plain rest) rest
    → mid ≡ value ++ take (prefix_len is_plain rest) rest → prefix_len is_plain rest ≤ length rest → IsReadTo text mid remaining
read_run text value rest mid remaining h behind_is mid_is fits =
    let n = prefix_len is_plain rest in
    let len : length remaining ≡ length rest - n = ap length behind_is ∙ length-drop n rest in
    let e : length text - length rest + n ≡ length text - length remaining = omega (arith, len, h.within) in
    record {
      within = omega (arith, len, h.within);
      same = h.same ∙ ap (behind value (length text - length rest)) (plain_run rest)
          ∙ behind_twice value (take n rest) (length text - length rest) n (content 0 (drop n rest))
          ∙ ap₂ (λ v k. behind v k (content 0 (drop n rest))) (sym mid_is) e
          ∙ ap (λ l. behind mid (length text - length remaining) (content 0 l)) (sym behind_is);
    }

-- one more escape is read
pub read_escape : (text mid remaining bs new rest : List ℕ) (c n : ℕ) → IsReadTo text mid remaining → remaining ≡ 92 ∷ bs → escape_at bs ≡ Some (c, n)
    → n ≤ length bs
    → new ≡ mid ++ encode_utf8 c → rest ≡ drop n bs → IsReadTo text new rest
read_escape text mid remaining bs new rest c n h remaining_is found fits new_is rest_is =
    let len : length rest ≡ length bs - n = ap length rest_is ∙ length-drop n bs in
    let more : length remaining ≡ suc (length bs) = ap length remaining_is in
    let e : length text - length remaining + (1 + n) ≡ length text - length rest = omega (arith, len, more, h.within, fits) in
    record {
      within = omega (arith, len, more, h.within);
      same = h.same ∙ ap (λ l. behind mid (length text - length remaining) (content 0 l)) remaining_is
          ∙ ap (behind mid (length text - length remaining)) (escape_first bs c n found fits)
          ∙ behind_twice mid (encode_utf8 c) (length text - length remaining) (1 + n) (content 0 (drop n bs))
          ∙ ap₂ (λ v k. behind v k (content 0 (drop n bs))) (sym new_is) e ∙ ap (λ l. behind new (length text - length rest) (content 0 l)) (sym rest_is);
    }

-- the closing quote is read
pub read_quote : (text mid remaining bs : List ℕ) → IsReadTo text mid remaining → remaining ≡ 34 ∷ bs
    → content 0 text ≡ Some (mid, length text - length remaining + 1)
unfolding content
read_quote text mid remaining bs h remaining_is =
    h.same ∙ ap (λ l. behind mid (length text - length remaining) (content 0 l)) remaining_is
    ∙ ap (λ v. Some (v, length text - length remaining + 1)) (append-nil mid)

-- if what remains is not the rest of a string, the text is not a string
pub read_wrong : (text mid remaining : List ℕ) → IsReadTo text mid remaining → content 0 remaining ≡ None → content 0 text ≡ None
read_wrong text mid remaining h none = h.same ∙ ap (behind mid (length text - length remaining)) none

-- an empty text is not a string
pub no_quote : (remaining : List ℕ) → remaining ≡ [] → content 0 remaining ≡ None
unfolding content
no_quote remaining h = ap (content 0) h

pub no_escape : (remaining bs : List ℕ) → remaining ≡ 92 ∷ bs → escape_at bs ≡ None → content 0 remaining ≡ None
unfolding content
no_escape remaining bs h none = ap (content 0) h ∙ rw none refl

-- a byte that may not occur without an escape, and is neither a quote nor a backslash
third_of_four : {A : Type 0} (x y z : Bool) (p q r s : A) → not z && (not x && not y) ≡ false → x ≡ false → y ≡ false
    → (if x then p else (if y then q else (if z then r else s))) ≡ r
third_of_four false false true p q r s h i j = refl
third_of_four false false false p q r s h i j = absurd (cc)
third_of_four true y z p q r s h i j = absurd (cc)
third_of_four false true z p q r s h i j = absurd (cc)

pub no_control : (remaining bs : List ℕ) (b : ℕ) → remaining ≡ b ∷ bs → is_plain b ≡ false → b == 34 ≡ false → b == 92 ≡ false → content 0 remaining ≡ None
unfolding content
no_control remaining bs b h plain quote backslash = ap (content 0) h ∙ third_of_four (b == 34) (b == 92) (nat_lt b 32) _ _ _ _ plain quote backslash

-- the first byte of what remains
pub head_is : (remaining : List ℕ) (b : ℕ) → 0 < length remaining → get_or remaining 0 0 ≡ b → remaining ≡ b ∷ drop 1 remaining
head_is [] b some is = absurd (omega (arith, some))
head_is (x ∷ xs) b some is = ap (λ y. y ∷ xs) is

-- the closing quote comes next
pub quote_next : (text mid remaining : List ℕ) → IsReadTo text mid remaining → 0 < length remaining → get_or remaining 0 0 ≡ 34 →
    content 0 text ≡ Some (mid, length text - length remaining + 1)
quote_next text mid remaining h some is = read_quote text mid remaining (drop 1 remaining) h (head_is remaining 34 some is)

-- an escape comes next
pub escape_next : (text mid remaining bs new rest : List ℕ) (c n : ℕ) → IsReadTo text mid remaining → 0 < length remaining → get_or remaining 0 0 ≡ 92
    → bs ≡ drop 1 remaining →
    escape_at bs ≡ Some (c, n) → n ≤ length bs → new ≡ mid ++ encode_utf8 c → rest ≡ drop n bs → IsReadTo text new rest
escape_next text mid remaining bs new rest c n h some is behind_is found fits new_is rest_is =
    read_escape text mid remaining bs new rest c n h (head_is remaining 92 some is ∙ ap (λ l. 92 ∷ l) (sym behind_is)) found fits new_is rest_is

pub no_escape_next : (text mid remaining bs : List ℕ) → IsReadTo text mid remaining → 0 < length remaining → get_or remaining 0 0 ≡ 92 → bs ≡ drop 1 remaining →
    escape_at bs ≡ None → content 0 text ≡ None
no_escape_next text mid remaining bs h some is behind_is none =
    read_wrong text mid remaining h (no_escape remaining bs (head_is remaining 92 some is ∙ ap (λ l. 92 ∷ l) (sym behind_is)) none)

-- the text ends without a quote
pub end_next : (text mid remaining : List ℕ) → IsReadTo text mid remaining → remaining ≡ [] → content 0 text ≡ None
end_next text mid remaining h none = read_wrong text mid remaining h (no_quote remaining none)

-- after a run, the next byte needs an escape or ends the string
pub run_stops : (rest remaining : List ℕ) → remaining ≡ drop (prefix_len is_plain rest) rest → 0 < length remaining → is_plain (get_or remaining 0 0) ≡ false
run_stops rest remaining is some =
    let n = prefix_len is_plain rest in
    let len : length remaining ≡ length rest - n = ap length is ∙ length-drop n rest in
    let within : n < length rest = omega (arith, len, some) in
    let e : n + 0 ≡ n = omega arith in
    let same : get_or remaining 0 0 ≡ get_or rest n 0 = ap (λ l. get_or l 0 0) is ∙ get_or-drop n rest 0 0 ∙ ap (λ k. get_or rest k 0) e in
    ap is_plain same ∙ prefix_len_stops is_plain rest 0 within

pub control_next : (text mid rest remaining : List ℕ) → IsReadTo text mid remaining → remaining ≡ drop (prefix_len is_plain rest) rest → 0 < length remaining →
    (get_or remaining 0 0 ≡ 34 → ⊥) → (get_or remaining 0 0 ≡ 92 → ⊥) → content 0 text ≡ None
control_next text mid rest remaining h is some no_34 no_92 =
    read_wrong text mid remaining h
    (no_control remaining (drop 1 remaining) (get_or remaining 0 0) (head_is remaining (get_or remaining 0 0) some refl) (run_stops rest remaining is some)
    (ne_eqb (get_or remaining 0 0) 34 no_34) (ne_eqb (get_or remaining 0 0) 92 no_92))

-- ---- escapes by number

low_below : (u : ℕ) → u < 0xD800 → is_low u ≡ false
low_below u h = grind (arith, nat_tests)

low_above : (u : ℕ) → 0xE000 ≤ u → is_low u ≡ false
low_above u h = grind (arith, nat_tests)

low_between : (u : ℕ) → is_high u ≡ false → 0xD800 ≤ u → u ≤ 0xDFFF → is_low u ≡ true
low_between u other from to = grind (arith, nat_tests)

low_of_scalar : (u : ℕ) → InScalarRange u → is_low u ≡ false
low_of_scalar u h = elim h [ inl below ↦ low_below u below | inr above ↦ low_above u above.0 ]

low_of_other : (u : ℕ) → u < 65536 → is_high u ≡ false → OutOfScalarRange u → is_low u ≡ true
low_of_other u small other h = elim h [ inl within ↦ low_between u other within.0 within.1 | inr past ↦ absurd (omega (arith, small, past)) ]

-- a code unit that is not half of a pair
pub unit_found : (u v : ℕ) (rest : List ℕ) → (u ≡ 0 → ⊥) → is_high u ≡ false → InScalarRange u → v ≡ u → escaped_unit (Some u) rest ≡ Some (v, 5)
unit_found u v rest some other range same =
    cond-false (u == 0) _ _ (ne_eqb u 0 some) ∙ cond-false (is_high u) _ _ other ∙ cond-false (is_low u) _ _ (low_of_scalar u range)
    ∙ ap (λ (k : ℕ). Some (k, 5)) (sym same)

-- the second half of a pair without the first
pub unit_none : (u : ℕ) (rest : List ℕ) → (u ≡ 0 → ⊥) → u < 65536 → is_high u ≡ false → OutOfScalarRange u → escaped_unit (Some u) rest ≡ None
unit_none u rest some small other range =
    cond-false (u == 0) _ _ (ne_eqb u 0 some) ∙ cond-false (is_high u) _ _ other ∙ cond-true (is_low u) _ _ (low_of_other u small other range)
