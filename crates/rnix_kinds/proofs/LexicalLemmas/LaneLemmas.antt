-- Tests of many bytes at once. A lane is full (255) or empty (0).
use Rattle.std.proofs.Common.{◌≡◌, ℕ, ◌+◌, ◌%◌, ◌^◌, ◌<◌, ◌≤◌, Bool, true, false, not, ◌&&◌, ◌||◌, cond, eqb, List, [], ◌∷◌, map, length, drop, get_or}
use Rattle.std.proofs.Common.{replicate, Fits, w8, bit_and, bit_or, refl, sym, ap, ap₂, ◌∙◌, arith}
use Rattle.std.proofs.lemmas.Bool.{agree_below, agree_below_at, eq-eqb, ne_eqb, cond-true, cond-false}
use Rattle.std.proofs.lemmas.Simd.{tops_compared, zip2_splat, map-map, bitmask_splat, first_set_mask_l, chunk-drop, length-chunk}
use Rattle.std.proofs.lemmas.List.{length-map}
use Rattle.std.proofs.lemmas.List.Folds.{prefix_len-append}
use Rattle.std.specs.List.{prefix_len}
use lib.Count.{count_trailing_zeros}
use lib.Lanes.{Each1, sel_l, zip2, top, mask_l, chunk}
use Rattle.rnix_kinds.specs.Lexical.{Lanes.lanes, Texts.run_end}

-- selecting full lanes by a test fills the lanes of the bytes that pass it
chosen : (p : ℕ → Bool) (v : List ℕ) → sel_l (map p v) (replicate (length v) 255) (replicate (length v) 0) ≡ lanes p v
chosen p [] = refl
chosen p (x ∷ v) = ap (λ r. cond (p x) 255 0 ∷ r) (chosen p v)

-- the same choice with both values exchanged
swapped : (b : Bool) → ◌≡◌ {A = ℕ} (cond b 0 255) (cond (not b) 255 0)
swapped true = refl
swapped false = refl

-- selecting empty lanes by a test fills the lanes of the bytes that fail it
left_out : (p : ℕ → Bool) (v : List ℕ) → sel_l (map p v) (replicate (length v) 0) (replicate (length v) 255) ≡ lanes (λ b. not (p b)) v
left_out p [] = refl
left_out p (x ∷ v) = ap₂ (λ l r. l ∷ r) (swapped (p x)) (left_out p v)

-- a lane of a comparison of two vectors
abbrev pub compared : (ℕ → ℕ → Bool) → ℕ → ℕ → ℕ
compared t a b = cond (t a b) 255 0

-- `select` by a comparison with one byte fills the lanes for which it holds
pub filled : (t : ℕ → ℕ → Bool) (v : List ℕ) (y : ℕ) → length v ≡ 16
    → sel_l (map (top 7) (zip2 (compared t) v (replicate 16 y))) (replicate 16 255) (replicate 16 0) ≡ lanes (λ b. t b y) v
filled t v y long =
    ap (λ m. sel_l m (replicate 16 255) (replicate 16 0)) (tops_compared w8 t v (replicate 16 y) ∙ zip2_splat t v 16 y long)
    ∙ ap (λ n. sel_l (map (λ b. t b y) v) (replicate n 255) (replicate n 0)) (sym long) ∙ chosen (λ b. t b y) v

-- and, with both values exchanged, the lanes for which it does not
pub emptied : (t : ℕ → ℕ → Bool) (v : List ℕ) (y : ℕ) → length v ≡ 16
    → sel_l (map (top 7) (zip2 (compared t) v (replicate 16 y))) (replicate 16 0) (replicate 16 255) ≡ lanes (λ b. not (t b y)) v
emptied t v y long =
    ap (λ m. sel_l m (replicate 16 0) (replicate 16 255)) (tops_compared w8 t v (replicate 16 y) ∙ zip2_splat t v 16 y long)
    ∙ ap (λ n. sel_l (map (λ b. t b y) v) (replicate n 0) (replicate n 255)) (sym long) ∙ left_out (λ b. t b y) v

-- a test of bytes that were changed one by one is a test of the old bytes
pub lanes-map : (p : ℕ → Bool) (f : ℕ → ℕ) (v : List ℕ) {a : List ℕ} → a ≡ map f v → lanes p a ≡ lanes (λ b. p (f b)) v
lanes-map p f v e = ap (lanes p) e ∙ map-map (λ b. cond (p b) 255 0) f v

-- two lanes joined by `&`
and_lane : (a b : Bool) → bit_and (cond a 255 0) (cond b 255 0) ≡ cond (a && b) 255 0
and_lane true true = refl
and_lane true false = refl
and_lane false true = refl
and_lane false false = refl

-- two lanes joined by `|`
or_lane : (a b : Bool) → bit_or (cond a 255 0) (cond b 255 0) ≡ cond (a || b) 255 0
or_lane true true = refl
or_lane true false = refl
or_lane false true = refl
or_lane false false = refl

-- vectors joined by `&`
zip_and : (p q : ℕ → Bool) (v : List ℕ) → zip2 bit_and (lanes p v) (lanes q v) ≡ lanes (λ b. p b && q b) v
zip_and p q [] = refl
zip_and p q (x ∷ v) = ap₂ (λ l r. l ∷ r) (and_lane (p x) (q x)) (zip_and p q v)

-- vectors joined by `|`
zip_or : (p q : ℕ → Bool) (v : List ℕ) → zip2 bit_or (lanes p v) (lanes q v) ≡ lanes (λ b. p b || q b) v
zip_or p q [] = refl
zip_or p q (x ∷ v) = ap₂ (λ l r. l ∷ r) (or_lane (p x) (q x)) (zip_or p q v)

-- the lanes of the bytes that pass both tests
pub both : (p q : ℕ → Bool) (v : List ℕ) {a b : List ℕ} → a ≡ lanes p v → b ≡ lanes q v → zip2 bit_and a b ≡ lanes (λ x. p x && q x) v
both p q v d e = ap₂ (zip2 bit_and) d e ∙ zip_and p q v

-- the lanes of the bytes that pass one of the tests
pub either : (p q : ℕ → Bool) (v : List ℕ) {a b : List ℕ} → a ≡ lanes p v → b ≡ lanes q v → zip2 bit_or a b ≡ lanes (λ x. p x || q x) v
either p q v d e = ap₂ (zip2 bit_or) d e ∙ zip_or p q v

-- tests that agree on all 256 bytes
pub same_lanes : (p q : ℕ → Bool) (v : List ℕ) → Each1 (Fits w8) v → agree_below p q 256 ≡ true → lanes p v ≡ lanes q v
same_lanes p q [] fits all = refl
same_lanes p q (x ∷ v) fits all =
    ap₂ (λ b r. cond b 255 0 ∷ r) (agree_below_at p q 256 x all fits.0.fits) (same_lanes p q v fits.1 all)

-- a lane that is not empty is full
full_lane : (b : Bool) → not (eqb (cond b 255 0) 0) ≡ b
full_lane true = refl
full_lane false = refl

-- the run of full lanes is as long as the run of bytes that pass
prefix_len-lanes : (q : ℕ → Bool) (v : List ℕ) → prefix_len (λ x. not (eqb x 0)) (lanes q v) ≡ prefix_len q v
prefix_len-lanes q [] = refl
prefix_len-lanes q (x ∷ v) = ap₂ (λ b n. cond b (1 + n) 0) (full_lane (q x)) (prefix_len-lanes q v)

-- the mask with a bit for each empty lane
abbrev pub empty_mask : List ℕ → ℕ
empty_mask m = mask_l (map (top 7) (zip2 (compared eqb) m (replicate 16 0))) % 2 ^ 64

-- the lowest bit of this mask is at the end of the run of full lanes
first_empty : (q : ℕ → Bool) (v m : List ℕ) → length v ≡ 16 → m ≡ lanes q v
    → cond (eqb (empty_mask m) 0) 16 (count_trailing_zeros 64 (empty_mask m)) ≡ prefix_len q v
first_empty q v m long e =
    let long_lanes = ap length e ∙ length-map v (λ b. cond (q b) 255 0) ∙ long in
    ap (λ k. cond (eqb k 0) 16 (count_trailing_zeros 64 k)) (bitmask_splat w8 eqb m 16 0 long_lanes (omega arith))
    ∙ first_set_mask_l (λ x. eqb x 0) m 16 long_lanes (omega arith) ∙ ap (prefix_len (λ x. not (eqb x 0))) e ∙ prefix_len-lanes q v

-- if the mask has no bit, all bytes pass
pub no_empty : (q : ℕ → Bool) (v m : List ℕ) → length v ≡ 16 → m ≡ lanes q v → empty_mask m ≡ 0 → 16 ≡ prefix_len q v
no_empty q v m long e none = sym (cond-true _ _ _ (eq-eqb _ _ none)) ∙ first_empty q v m long e

-- if it has one, the lowest is the number of bytes that pass
pub some_empty : (q : ℕ → Bool) (v m : List ℕ) → length v ≡ 16 → m ≡ lanes q v
    → (empty_mask m ≡ 0 → ⊥) → count_trailing_zeros 64 (empty_mask m) ≡ prefix_len q v
some_empty q v m long e some = sym (cond-false _ _ _ (ne_eqb _ _ some)) ∙ first_empty q v m long e

-- a run from a position on ends within the `n` bytes there, or includes all of them
split : (q : ℕ → Bool) (d : List ℕ) (i n : ℕ) → i + n ≤ length d
    → prefix_len q (drop i d) ≡ cond (eqb (prefix_len q (chunk i n d)) n) (n + prefix_len q (drop (i + n) d)) (prefix_len q (chunk i n d))
split q d i n room =
    ap (prefix_len q) (chunk-drop i n d) ∙ prefix_len-append q (chunk i n d) (drop (i + n) d)
    ∙ ap (λ k. cond (eqb (prefix_len q (chunk i n d)) k) (k + prefix_len q (drop (i + n) d)) (prefix_len q (chunk i n d))) (length-chunk i n d room)

-- if all of the `n` bytes pass, the run includes them
pub run_through : (q : ℕ → Bool) (d : List ℕ) (i n : ℕ) → i + n ≤ length d → n ≡ prefix_len q (chunk i n d)
    → prefix_len q (drop i d) ≡ n + prefix_len q (drop (i + n) d)
run_through q d i n room e = split q d i n room ∙ cond-true _ _ _ (eq-eqb _ _ (sym e))

-- if fewer than `n` bytes pass, the run ends among them
pub run_ends : (q : ℕ → Bool) (d : List ℕ) (i n r : ℕ) → i + n ≤ length d → r ≡ prefix_len q (chunk i n d) → r < n
    → prefix_len q (drop i d) ≡ r
run_ends q d i n r room e short =
    split q d i n room ∙ cond-false _ _ _ (ne_eqb _ _ (λ (whole : prefix_len q (chunk i n d) ≡ n). omega (arith, e))) ∙ sym e

-- a run that the first byte begins may be taken from the second byte on
pub run_end-first : (q : ℕ → Bool) (d : List ℕ) → 0 < length d → q (get_or d 0 0) ≡ true → run_end q 1 d ≡ run_end q 0 d
run_end-first q [] some first = absurd (omega arith)
run_end-first q (x ∷ d) some first = rw first (omega arith)
