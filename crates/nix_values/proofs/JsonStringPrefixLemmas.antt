-- A string stays the same if what follows it is replaced by a blank.
use Rattle.std.proofs.Common.{◌≡◌, ◌∙◌, ℕ, zero, suc, ◌+◌, ◌*◌, ◌<◌, ◌≤◌, List, [], ◌∷◌, ◌++◌, length, get_or, drop, ap, ap₂, sym, refl, arith, Option, Some, None}
use Rattle.std.specs.Prelude.{◌==◌, ◌&&◌, nat_lt, option_map, option_and_then, if◌then◌else◌}
use Rattle.std.specs.Char.{is_digit, digit_value, encode_utf8}
use Rattle.std.proofs.lemmas.List.{get_or-drop}
use Rattle.std.proofs.lemmas.Option.{none-some, same_Some, cond_some, option_and_then_some}
use Rattle.nix_values.specs.JsonContent.{code_unit, is_high, is_low, pair_of, low_half, paired, escaped_unit, short_escape, numbered, escape_at, behind, content}
use Rattle.nix_values.proofs.JsonPrefixLemmas.{if_some, if_kept, cut_at, byte_same}

-- ---- escapes

-- two texts have the same bytes up to an offset
abbrev IsAlike : ℕ → List ℕ → List ℕ → Type 0
IsAlike n xs ys = (i : ℕ) → i < n → get_or ys i 0 ≡ get_or xs i 0

alike_behind : (k n : ℕ) (xs ys : List ℕ) → IsAlike (k + n) xs ys → IsAlike n (drop k xs) (drop k ys)
alike_behind k n xs ys h i less =
    let there : k + i < k + n = omega (arith, less) in
    get_or-drop k ys i 0 ∙ h (k + i) there ∙ sym (get_or-drop k xs i 0)

abbrev unit_of : ℕ → ℕ → ℕ → ℕ → Option ℕ
unit_of a b c d =
    if is_digit a 16 && (is_digit b 16 && (is_digit c 16 && is_digit d 16))
    then Some (digit_value a * 4096 + (digit_value b * 256 + (digit_value c * 16 + digit_value d)))
    else None

unit_same : (xs ys : List ℕ) → IsAlike 4 xs ys → code_unit ys ≡ code_unit xs
unit_same xs ys h =
    ap (λ a. unit_of a (get_or ys 1 0) (get_or ys 2 0) (get_or ys 3 0)) (h 0 (omega arith))
    ∙ ap (λ b. unit_of (get_or xs 0 0) b (get_or ys 2 0) (get_or ys 3 0)) (h 1 (omega arith))
    ∙ ap₂ (λ c d. unit_of (get_or xs 0 0) (get_or xs 1 0) c d) (h 2 (omega arith)) (h 3 (omega arith))

low_same : (xs ys : List ℕ) → IsAlike 6 xs ys → low_half ys ≡ low_half xs
low_same xs ys h =
    ap₂ (λ a b. if a == 92 && b == 117 then code_unit (drop 2 ys) else None) (h 0 (omega arith)) (h 1 (omega arith))
    ∙ ap (λ (u : Option ℕ). if get_or xs 0 0 == 92 && get_or xs 1 0 == 117 then u else None) (unit_same (drop 2 xs) (drop 2 ys) (alike_behind 2 4 xs ys h))

pair_len : (high : ℕ) (low : Option ℕ) (x : ℕ × ℕ) → paired high low ≡ Some x → x.1 ≡ 11
pair_len high None x e = absurd (none-some x e)
pair_len high (Some low) x e = sym (ap (λ p. p.1) (cond_some {A = ℕ × ℕ} (is_low low) (pair_of high low, 11) x e).1)

unit_len : (unit : Option ℕ) (rest : List ℕ) (x : ℕ × ℕ) → escaped_unit unit rest ≡ Some x → 5 ≤ x.1
unit_len None rest x e = absurd (none-some x e)
unit_len (Some unit) rest x e =
    if_some (unit == 0) None _ x e (λ c none. absurd (none-some x none))
    (λ c more. if_some (is_high unit) (paired unit (low_half rest)) _ x more
    (λ high pair. let len : x.1 ≡ 11 = pair_len unit (low_half rest) x pair in omega (arith, len))
    (λ other one. if_some (is_low unit) None (Some (unit, 5)) x one (λ low none. absurd (none-some x none))
    (λ scalar found. let len : 5 ≡ x.1 = ap (λ p. p.1) (same_Some {A = ℕ × ℕ} (unit, 5) x found) in omega (arith, len))))

unit_kept : (unit : Option ℕ) (rest other : List ℕ) (x : ℕ × ℕ) → escaped_unit unit rest ≡ Some x → (x.1 ≡ 11 → low_half other ≡ low_half rest) →
    escaped_unit unit other ≡ Some x
unit_kept None rest other x e h = absurd (none-some x e)
unit_kept (Some unit) rest other x e h =
    if_kept (unit == 0) None None _ _ x e (λ none. none)
    (λ more. if_kept (is_high unit) (paired unit (low_half rest)) (paired unit (low_half other)) _ _ x more
    (λ pair. ap (paired unit) (h (pair_len unit (low_half rest) x pair)) ∙ pair) (λ one. one))

numbered_kept : (bs cs : List ℕ) (x : ℕ × ℕ) → numbered (drop 1 bs) ≡ Some x → IsAlike x.1 bs cs → numbered (drop 1 cs) ≡ Some x
numbered_kept bs cs x e same =
    let len : 5 ≤ x.1 = unit_len (code_unit (drop 1 bs)) (drop 4 (drop 1 bs)) x e in
    ap (λ u. escaped_unit u (drop 4 (drop 1 cs)))
    (unit_same (drop 1 bs) (drop 1 cs) (alike_behind 1 4 bs cs (λ i less. let there : i < x.1 = omega (arith, less, len) in same i there)))
    ∙ unit_kept (code_unit (drop 1 bs)) (drop 4 (drop 1 bs)) (drop 4 (drop 1 cs)) x e
    (λ long. low_same (drop 4 (drop 1 bs)) (drop 4 (drop 1 cs)) (alike_behind 4 6 (drop 1 bs) (drop 1 cs)
    (alike_behind 1 10 bs cs (λ i less. let there : i < x.1 = omega (arith, less, long) in same i there))))

short_len : (found : Option ℕ) (x : ℕ × ℕ) → option_map (λ c. (c, 1)) found ≡ Some x → 0 < x.1
short_len None x e = absurd (none-some x e)
short_len (Some c) x e = let len : 1 ≡ x.1 = ap (λ p. p.1) (same_Some {A = ℕ × ℕ} (c, 1) x e) in omega (arith, len)

escape_kept : (bs cs : List ℕ) (x : ℕ × ℕ) → escape_at bs ≡ Some x → IsAlike x.1 bs cs → escape_at cs ≡ Some x
unfolding escape_at
escape_kept bs cs x e same =
    let some : 0 < x.1 =
    if_some (get_or bs 0 0 == 117) (numbered (drop 1 bs)) (option_map (λ c. (c, 1)) (short_escape (get_or bs 0 0))) x e
    (λ long found. let len : 5 ≤ x.1 = unit_len (code_unit (drop 1 bs)) (drop 4 (drop 1 bs)) x found in omega (arith, len))
    (λ short found. short_len (short_escape (get_or bs 0 0)) x found) in
    ap (λ b. if b == 117 then numbered (drop 1 cs) else option_map (λ c. (c, 1)) (short_escape b)) (same 0 some)
    ∙ if_kept (get_or bs 0 0 == 117) (numbered (drop 1 bs)) (numbered (drop 1 cs)) (option_map (λ c. (c, 1)) (short_escape (get_or bs 0 0)))
    (option_map (λ c. (c, 1)) (short_escape (get_or bs 0 0))) x e (λ long. numbered_kept bs cs x long same) (λ short. short)

-- ---- strings

-- what is found after some bytes
behind_parts : (bytes : List ℕ) (n : ℕ) (found : Option (List ℕ × ℕ)) (r : List ℕ × ℕ) → behind bytes n found ≡ Some r →
    (x : List ℕ × ℕ) × (found ≡ Some x) × (n + x.1 ≡ r.1)
behind_parts bytes n None r e = absurd (none-some r e)
behind_parts bytes n (Some x) r e = (x, refl, ap (λ p. p.1) (same_Some {A = List ℕ × ℕ} (bytes ++ x.0, n + x.1) r e))

pub content_fits : (passed : ℕ) (bs : List ℕ) (r : List ℕ × ℕ) → content passed bs ≡ Some r → (passed < r.1) × (r.1 ≤ length bs)
unfolding content
content_fits passed [] r e = absurd (none-some r e)
content_fits (suc passed) (b ∷ bs) r e =
    let x = behind_parts [] 1 (content passed bs) r e in
    let fits = content_fits passed bs x.0 x.1 in
    (omega (arith, x.2, fits.0), omega (arith, x.2, fits.1))
content_fits zero (b ∷ bs) r e =
    if_some (b == 34) (Some ([], 1)) _ r e
    (λ quote found. let len : 1 ≡ r.1 = ap (λ p. p.1) (same_Some {A = List ℕ × ℕ} ([], 1) r found) in (omega (arith, len), omega (arith, len)))
    (λ other more. if_some (b == 92) (option_and_then (λ x. behind (encode_utf8 x.0) 1 (content x.1 bs)) (escape_at bs)) _ r more
    (λ slash found. option_and_then_some (λ x. behind (encode_utf8 x.0) 1 (content x.1 bs)) (escape_at bs) r found
    (λ x is there.
    let y = behind_parts (encode_utf8 x.0) 1 (content x.1 bs) r there in
    let fits = content_fits x.1 bs y.0 y.1 in
    (omega (arith, y.2, fits.0), omega (arith, y.2, fits.1))))
    (λ plain rest. if_some (nat_lt b 32) None (behind (b ∷ []) 1 (content zero bs)) r rest (λ control none. absurd (none-some r none))
    (λ letter found.
    let y = behind_parts (b ∷ []) 1 (content zero bs) r found in
    let fits = content_fits zero bs y.0 y.1 in
    (omega (arith, y.2, fits.0), omega (arith, y.2, fits.1)))))

pub content_kept : (passed : ℕ) (bs : List ℕ) (m : ℕ) (rest : List ℕ) (r : List ℕ × ℕ) → content passed bs ≡ Some r → r.1 ≤ m → m ≤ length bs →
    content passed (cut_at m bs rest) ≡ Some r
unfolding content
content_kept passed [] m rest r e fits within = absurd (none-some r e)
content_kept passed (b ∷ bs) zero rest r e fits within = let less = (content_fits passed (b ∷ bs) r e).0 in absurd (omega (arith, less, fits))
content_kept (suc passed) (b ∷ bs) (suc m) rest r e fits within =
    let x = behind_parts [] 1 (content passed bs) r e in
    let room : x.0.1 ≤ m = omega (arith, x.2, fits) in
    let inside : m ≤ length bs = omega (arith, within) in
    ap (behind [] 1) (content_kept passed bs m rest x.0 x.1 room inside) ∙ sym (ap (behind [] 1) x.1) ∙ e
content_kept zero (b ∷ bs) (suc m) rest r e fits within =
    let inside : m ≤ length bs = omega (arith, within) in
    if_kept (b == 34) (Some ([], 1)) (Some ([], 1)) _ _ r e (λ quote. quote)
    (λ more. if_kept (b == 92) (option_and_then (λ x. behind (encode_utf8 x.0) 1 (content x.1 bs)) (escape_at bs))
    (option_and_then (λ x. behind (encode_utf8 x.0) 1 (content x.1 (cut_at m bs rest))) (escape_at (cut_at m bs rest))) _ _ r more
    (λ slash. option_and_then_some (λ x. behind (encode_utf8 x.0) 1 (content x.1 bs)) (escape_at bs) r slash
    (λ x is there.
    let y = behind_parts (encode_utf8 x.0) 1 (content x.1 bs) r there in
    let less = (content_fits x.1 bs y.0 y.1).0 in
    let room : y.0.1 ≤ m = omega (arith, y.2, fits) in
    ap (option_and_then (λ k. behind (encode_utf8 k.0) 1 (content k.1 (cut_at m bs rest))))
    (escape_kept bs (cut_at m bs rest) x is (λ i before. let there : i < m = omega (arith, before, less, room) in byte_same m bs rest inside i there))
    ∙ ap (behind (encode_utf8 x.0) 1) (content_kept x.1 bs m rest y.0 y.1 room inside)
    ∙ sym (ap (behind (encode_utf8 x.0) 1) y.1) ∙ there))
    (λ plain. if_kept (nat_lt b 32) None None (behind (b ∷ []) 1 (content zero bs)) (behind (b ∷ []) 1 (content zero (cut_at m bs rest))) r plain (λ none. none)
    (λ letter.
    let y = behind_parts (b ∷ []) 1 (content zero bs) r letter in
    let room : y.0.1 ≤ m = omega (arith, y.2, fits) in
    ap (behind (b ∷ []) 1) (content_kept zero bs m rest y.0 y.1 room inside) ∙ sym (ap (behind (b ∷ []) 1) y.1) ∙ letter)))
