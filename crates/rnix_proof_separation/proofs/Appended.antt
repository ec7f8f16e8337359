-- Texts that begin with the same token: their bytes and runs inside the token, whatever follows.
use Rattle.std.proofs.Common.{◌≡◌, ℕ, suc, ◌+◌, ◌<◌, ◌≤◌, Bool, true, false, not, ◌&&◌, ◌||◌, ◌==◌, List, [], ◌∷◌, ◌++◌, length, get_or, drop, refl, sym, ap}
use Rattle.std.proofs.{Common.{◌∙◌, inl, inr, ◌⊎◌, arith, add-zero, add-one, get_or-drop, length-drop, eqb-true, eq-eqb, cond}, lemmas.List.get_or_append_left}
use Rattle.std.proofs.lemmas.{List.{get_or-append-add, drop-append-le, get_or_past, Sums.{prefix_len_passes, prefix_len_stops}}, Bool.{cases_lt, cases_Bool}}
use Rattle.std.proofs.lemmas.Bool.{and_parts, and_from, both_ways, not-true, not_from_false, ne_eqb, or_left, cond-true, cond-false, agree_below}
use Rattle.std.{proofs.lemmas.Bool.{agree_below_at, Decides.nat_tests}, specs.{Prelude.codes, List.{prefix_len, list_all}}}
use Rattle.rnix_kinds.specs.Lexical.Texts.{occurs_at, begins, run_end, is_blank}

-- a choice whose test is true is its first value
pub if_true : {A : Type 0} (b : Bool) (x y z : A) → b ≡ true → x ≡ z → cond b x y ≡ z
if_true b x y z e f = cond-true b x y e ∙ f

pub if_false : {A : Type 0} (b : Bool) (x y z : A) → b ≡ false → y ≡ z → cond b x y ≡ z
if_false b x y z e f = cond-false b x y e ∙ f

-- a statement that holds if a test is true and if it is false
pub either : {P : Type 0} (b : Bool) → (b ≡ true → P) → (b ≡ false → P) → P
either true pass fail = pass refl
either false pass fail = fail refl

-- a byte of the token does not depend on what follows
pub same_byte : (t s r : List ℕ) (i : ℕ) → i < length t → get_or (t ++ s) i 0 ≡ get_or (t ++ r) i 0
same_byte t s r i h = get_or_append_left t s 0 i h ∙ sym (get_or_append_left t r 0 i h)

-- the byte after the token is the first one of what follows
pub next_byte : (t r : List ℕ) → get_or (t ++ r) (length t) 0 ≡ get_or r 0 0
next_byte t r = ap (λ k. get_or (t ++ r) k 0) (sym (add-zero (length t))) ∙ get_or-append-add t r 0 0

pub next_byte_at : (t r : List ℕ) (i : ℕ) → i ≡ length t → get_or (t ++ r) i 0 ≡ get_or r 0 0
next_byte_at t r i e = ap (λ k. get_or (t ++ r) k 0) e ∙ next_byte t r

-- `${` follows the token exactly if what follows begins with it
pub dollar_after : (t r : List ℕ) → occurs_at (codes "${") (length t) (t ++ r) ≡ begins (codes "${") r
dollar_after t r =
    let next : get_or (t ++ r) (suc (length t)) 0 ≡ get_or r 1 0 =
    ap (λ k. get_or (t ++ r) k 0) (sym (add-one (length t))) ∙ get_or-append-add t r 1 0 in
    ap (λ k. (k == 36) && (get_or (t ++ r) (suc (length t)) 0 == 123)) (next_byte t r) ∙ ap (λ k. (get_or r 0 0 == 36) && (k == 123)) next

-- a run is empty if the first byte is not in it
pub no_run : (p : ℕ → Bool) (r : List ℕ) → p (get_or r 0 0) ≡ false → prefix_len p r ≡ 0
no_run p [] out = refl
no_run p (b ∷ r) out = cond-false (p b) _ _ out

run_next : (p : ℕ → Bool) (b : ℕ) (xs : List ℕ) → p b ≡ true → prefix_len p (b ∷ xs) ≡ 1 + prefix_len p xs
run_next p b xs e = cond-true (p b) _ _ e

-- two runs are equal if they are equal after a first byte that is in both
run_step : (p : ℕ → Bool) (b : ℕ) (xs ys : List ℕ) → (p b ≡ true → prefix_len p ys ≡ prefix_len p xs) → prefix_len p (b ∷ ys) ≡ prefix_len p (b ∷ xs)
run_step p b xs ys more =
    elim (cases_Bool (p b)) [
      | inl e ↦ run_next p b ys e ∙ (ap (λ k. 1 + k) (more e) ∙ sym (run_next p b xs e))
      | inr e ↦ cond-false (p b) _ _ e ∙ sym (cond-false (p b) _ _ e)
    ]

-- a run that ends inside the token does not depend on what follows
pub run_inside : (p : ℕ → Bool) (t s r : List ℕ) → prefix_len p (t ++ s) < length t → prefix_len p (t ++ r) ≡ prefix_len p (t ++ s)
run_inside p [] s r h = absurd (omega arith)
run_inside p (b ∷ t) s r h = run_step p b (t ++ s) (t ++ r) (λ e. run_inside p t s r (omega (arith, run_next p b (t ++ s) e)))

-- a run that ends with the token at the latest is the same before bytes that are not in it
pub run_stopped : (p : ℕ → Bool) (t s r : List ℕ) → prefix_len p (t ++ s) ≤ length t → prefix_len p r ≡ 0 → prefix_len p (t ++ r) ≡ prefix_len p (t ++ s)
run_stopped p [] s r h stop = omega arith
run_stopped p (b ∷ t) s r h stop = run_step p b (t ++ s) (t ++ r) (λ e. run_stopped p t s r (omega (arith, run_next p b (t ++ s) e)) stop)

-- the same for a run from a position in the token on
pub end_stopped : (p : ℕ → Bool) (i : ℕ) (t s r : List ℕ) → i ≤ length t → run_end p i (t ++ s) ≤ length t → prefix_len p r ≡ 0
    → run_end p i (t ++ r) ≡ run_end p i (t ++ s)
end_stopped p i t s r h k stop =
    let before = ap (prefix_len p) (drop-append-le i t s h) in
    let after = ap (prefix_len p) (drop-append-le i t r h) in
    let size = length-drop i t in
    let inner = run_stopped p (drop i t) s r (omega arith) stop in
    omega arith

-- the byte after a run is not in it
pub run_stops : (p : ℕ → Bool) (xs : List ℕ) → p 0 ≡ false → p (get_or xs (prefix_len p xs) 0) ≡ false
run_stops p xs out =
    elim (cases_lt (prefix_len p xs) (length xs)) [
      | inl within ↦ prefix_len_stops p xs 0 within
      | inr past ↦ ap p (get_or_past xs (prefix_len p xs) 0 past) ∙ out
    ]

-- a run is longer than another if it includes its bytes and the byte after it
pub run_longer : (p q : ℕ → Bool) (xs : List ℕ) → ((b : ℕ) → q b ≡ true → p b ≡ true) → p 0 ≡ false
    → p (get_or xs (prefix_len q xs) 0) ≡ true → prefix_len q xs < prefix_len p xs
run_longer p q xs wider out pass =
    elim (cases_lt (prefix_len q xs) (prefix_len p xs)) [
      | inl h ↦ h
      | inr h ↦ elim (cases_lt (prefix_len p xs) (prefix_len q xs)) [
        | inl less ↦ absurd (both_ways _ (run_stops p xs out) (wider _ (prefix_len_passes q xs (prefix_len p xs) 0 less)))
        | inr not_less ↦ (let same : prefix_len p xs ≡ prefix_len q xs = omega arith in
            absurd (both_ways _ (ap (λ k. p (get_or xs k 0)) (sym same) ∙ run_stops p xs out) pass))
      ]
    ]

-- the byte after a byte of a run is in the run if it passes the run's test
pub run_more : (p : ℕ → Bool) (xs : List ℕ) (n : ℕ) → p 0 ≡ false → n < prefix_len p xs → p (get_or xs (n + 1) 0) ≡ true → n + 1 < prefix_len p xs
run_more p xs n out h pass =
    elim (cases_lt (n + 1) (prefix_len p xs)) [
      | inl more ↦ more
      | inr past ↦ (let same : prefix_len p xs ≡ n + 1 = omega arith in
          absurd (both_ways _ (ap (λ k. p (get_or xs k 0)) (sym same) ∙ run_stops p xs out) pass))
    ]

-- a run from a position on is not empty if the byte there is in it
pub end_some : (p : ℕ → Bool) (xs : List ℕ) (i : ℕ) → p 0 ≡ false → p (get_or xs i 0) ≡ true → i < run_end p i xs
end_some p xs i out pass =
    elim (cases_lt 0 (prefix_len p (drop i xs))) [
      | inl more ↦ omega arith
      | inr none ↦ (let is : prefix_len p (drop i xs) ≡ 0 = omega arith in
          let here : get_or (drop i xs) (prefix_len p (drop i xs)) 0 ≡ get_or xs i 0 =
          ap (λ k. get_or (drop i xs) k 0) is ∙ (get_or-drop i xs 0 0 ∙ ap (λ k. get_or xs k 0) (add-zero i)) in
          absurd (both_ways _ (ap p (sym here) ∙ run_stops p (drop i xs) out) pass))
    ]

-- whether a word occurs inside the token does not depend on what follows
pub stands_inside : (w : List ℕ) (i : ℕ) (t s r : List ℕ) → i + length w ≤ length t → occurs_at w i (t ++ s) ≡ occurs_at w i (t ++ r)
stands_inside [] i t s r h = refl
stands_inside (b ∷ []) i t s r h = ap (λ k. k == b) (same_byte t s r i (omega arith))
stands_inside (b ∷ c ∷ w) i t s r h =
    ap (λ k. (k == b) && occurs_at (c ∷ w) (suc i) (t ++ s)) (same_byte t s r i (omega arith))
    ∙ ap (λ k. (get_or (t ++ r) i 0 == b) && k) (stands_inside (c ∷ w) (suc i) t s r (omega arith))

byte_inside : (t r : List ℕ) (i b : ℕ) → i ≤ length t → (get_or (t ++ r) i 0 == b) ≡ true → not (b == get_or r 0 0) ≡ true → i < length t
byte_inside t r i b h e other =
    elim (cases_lt i (length t)) [
      | inl inside ↦ inside
      | inr past ↦ (let here : i ≡ length t = omega arith in
          let same : b ≡ get_or r 0 0 = sym (eqb-true (get_or (t ++ r) i 0) b e) ∙ next_byte_at t r i here in
          absurd (both_ways _ (not-true _ other) (eq-eqb b (get_or r 0 0) same)))
    ]

-- a word without the next byte, if it occurs at a position in the token, occurs inside it
pub stands_within : (w : List ℕ) (i : ℕ) (t r : List ℕ) → list_all (λ b. not (b == get_or r 0 0)) w ≡ true → i ≤ length t → occurs_at w i (t ++ r) ≡ true
    → i + length w ≤ length t
stands_within [] i t r other h e = omega arith
stands_within (b ∷ []) i t r other h e = omega (arith, byte_inside t r i b h e (and_parts (not (b == get_or r 0 0)) true other).0)
stands_within (b ∷ c ∷ w) i t r other h e =
    let others = and_parts (not (b == get_or r 0 0)) (list_all (λ d. not (d == get_or r 0 0)) (c ∷ w)) other in
    let parts = and_parts (get_or (t ++ r) i 0 == b) (occurs_at (c ∷ w) (suc i) (t ++ r)) e in
    let here = byte_inside t r i b h parts.0 others.0 in
    omega (arith, stands_within (c ∷ w) (suc i) t r others.1 (omega arith) parts.1)

-- the byte is white space, or there is none
abbrev pub is_edge : ℕ → Bool
is_edge b = is_blank b || b == 0

-- the byte is white space or `$`, or there is none
abbrev pub is_next : ℕ → Bool
is_next b = is_edge b || b == 36

-- white space follows, or nothing
abbrev pub IsApart : List ℕ → Type 0
IsApart r = (r ≡ []) ⊎ (is_blank (get_or r 0 0) ≡ true)

pub apart_edge : (r : List ℕ) → IsApart r → is_edge (get_or r 0 0) ≡ true
apart_edge r (inl e) = ap (λ x. is_edge (get_or x 0 0)) e
apart_edge r (inr e) = or_left _ _ e

next_low : (b : ℕ) → is_next b ≡ true → b < 37
next_low b e = grind (arith, nat_tests)

-- if a test fails for each such byte below 37, it fails for all of them
pub next_out : (p : ℕ → Bool) → agree_below (λ b. is_next b && p b) (λ b. false) 37 ≡ true → (b : ℕ) → is_next b ≡ true → p b ≡ false
next_out p none b e = ap (λ k. k && p b) (sym e) ∙ agree_below_at (λ c. is_next c && p c) (λ c. false) 37 b none (next_low b e)

edge_low : (b : ℕ) → is_edge b ≡ true → b < 33
edge_low b e = grind (arith, nat_tests)

pub edge_out : (p : ℕ → Bool) → agree_below (λ b. is_edge b && p b) (λ b. false) 33 ≡ true → (b : ℕ) → is_edge b ≡ true → p b ≡ false
edge_out p none b e = ap (λ k. k && p b) (sym e) ∙ agree_below_at (λ c. is_edge c && p c) (λ c. false) 33 b none (edge_low b e)

-- a byte that passes a test occurs in no word whose bytes do not
pub not_in_word : (p : ℕ → Bool) (w : List ℕ) (c : ℕ) → list_all (λ b. not (p b)) w ≡ true → p c ≡ true → list_all (λ b. not (b == c)) w ≡ true
not_in_word p [] c e f = refl
not_in_word p (b ∷ w) c e f =
    let parts = and_parts (not (p b)) (list_all (λ d. not (p d)) w) e in
    and_from _ _ (not_from_false _ (ne_eqb b c (λ same. both_ways (p b) (not-true _ parts.0) (ap p same ∙ f)))) (not_in_word p w c parts.1 f)
