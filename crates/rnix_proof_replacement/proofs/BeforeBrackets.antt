-- The bytes, runs and characters of a text before a bracket do not depend on what follows the bracket.
use Rattle.std.proofs.Common.{◌≡◌, ℕ, ◌+◌, ◌<◌, ◌≤◌, Bool, true, false, ◌||◌, ◌==◌, List, [], ◌∷◌, ◌++◌, length, get_or, take, drop, IsUtf8, refl}
use Rattle.std.proofs.Common.{sym, ap, ◌∙◌, subst, inl, inr, arith, cond, append_assoc, length-append, length-drop}
use Rattle.std.proofs.lemmas.List.{get_or_append_left, drop-append-le, take-append-le, Sums.{prefix_len_passes, take_while-cons}}
use Rattle.std.proofs.lemmas.Bool.{cases_lt, cases_Bool, both_ways, and_left}
use Rattle.std.proofs.lemmas.{Bool.Decides.nat_tests, Str.chars-append}
use Rattle.std.specs.{Prelude.codes, List.{prefix_len, take_while, list_any}, Char.is_whitespace, Str.chars}
use Rattle.rnix_kinds.specs.Lexical.Texts.{occurs_at, run_end, space_len, begins_space, char_len}
use Rattle.rnix_proof_separation.proofs.{Appended.{same_byte, next_byte, run_inside, stands_inside}, KeptPaths.chars_ascii}

-- the byte begins a bracket: it is a bracket, a quote or `$`
abbrev pub is_stop : ℕ → Bool
is_stop b = b == 34 || b == 36 || b == 39 || b == 40 || b == 41 || b == 91 || b == 93 || b == 123 || b == 125

-- the byte is `$` or `'`, the first half of a bracket
abbrev pub is_half : ℕ → Bool
is_half b = b == 36 || b == 39

-- a text begins with the first byte of a bracket, and with one more byte if that is half a bracket
pub record BeginsBracket (o : List ℕ) : Type 0 where
  pub some : 0 < length o
  pub stop : is_stop (get_or o 0 0) ≡ true
  pub whole : is_half (get_or o 0 0) ≡ true → 1 < length o

take_while_to : (p : ℕ → Bool) (xs ys : List ℕ) (b : ℕ) → p b ≡ false → take_while p (xs ++ (b ∷ ys)) ≡ take_while p xs
take_while_to p [] ys b out = take_while-cons p b ys ∙ ap (λ c. cond c (b ∷ take_while p ys) []) out
take_while_to p (x ∷ xs) ys b out =
    take_while-cons p x (xs ++ (b ∷ ys)) ∙ (ap (λ l. cond (p x) (x ∷ l) []) (take_while_to p xs ys b out) ∙ sym (take_while-cons p x xs))

first_to : (xs ys zs : List ℕ) (b : ℕ) → get_or (xs ++ (b ∷ ys)) 0 0 ≡ get_or (xs ++ (b ∷ zs)) 0 0
first_to [] ys zs b = refl
first_to (x ∷ xs) ys zs b = refl

take_one_to : (xs ys zs : List ℕ) (b : ℕ) → take 1 (xs ++ (b ∷ ys)) ≡ take 1 (xs ++ (b ∷ zs))
take_one_to [] ys zs b = refl
take_one_to (x ∷ xs) ys zs b = refl

stop_ascii : (b : ℕ) → is_stop b ≡ true → (b < 128) × (is_whitespace b ≡ false)
stop_ascii b e = (grind (arith, nat_tests), grind (arith, nat_tests))

-- the characters of a text with a bracket in it: those before the bracket, its first byte, and the rest
chars_bracket : (v o s : List ℕ) → IsUtf8 v → 0 < length o → get_or o 0 0 < 128 → chars ((v ++ o) ++ s) ≡ chars v ++ (get_or o 0 0 ∷ chars (drop 1 o ++ s))
chars_bracket v [] s utf8 some low = absurd (omega arith)
chars_bracket v (b ∷ o) s utf8 some low =
    ap chars (append_assoc v (b ∷ o) s) ∙ (chars-append v (b ∷ (o ++ s)) utf8 ∙ ap (λ l. chars v ++ l) (chars_ascii b (o ++ s) low))

module _ (o : List ℕ) (bracket : BeginsBracket o) where
  module _ (v : List ℕ) where
    whole_size : length (v ++ o) ≡ length v + length o
    whole_size = length-append v o

    pub byte_same : (s r : List ℕ) (i : ℕ) → i ≤ length v → get_or ((v ++ o) ++ s) i 0 ≡ get_or ((v ++ o) ++ r) i 0
    byte_same s r i h = same_byte (v ++ o) s r i (omega (arith, whole_size, bracket.some))

    pub stop_at : (s : List ℕ) → get_or ((v ++ o) ++ s) (length v) 0 ≡ get_or o 0 0
    stop_at s = get_or_append_left (v ++ o) s 0 (length v) (omega (arith, whole_size, bracket.some)) ∙ next_byte v o

    -- a position up to the bracket, whose byte passes a test that the bracket's does not, is before the bracket
    pub before_stop : (p : ℕ → Bool) (s : List ℕ) (i : ℕ) → p (get_or o 0 0) ≡ false → i ≤ length v → p (get_or ((v ++ o) ++ s) i 0) ≡ true → i < length v
    before_stop p s i out h pass =
        elim (cases_lt i (length v)) [
          | inl less ↦ less
          | inr past ↦ (let here : i ≡ length v = omega arith in
              absurd (both_ways _ out (ap p (sym (ap (λ k. get_or ((v ++ o) ++ s) k 0) here ∙ stop_at s)) ∙ pass)))
        ]

    -- a run without the bracket's first byte ends before the bracket
    pub run_le : (p : ℕ → Bool) (s : List ℕ) → p (get_or o 0 0) ≡ false → prefix_len p ((v ++ o) ++ s) ≤ length v
    run_le p s out =
        elim (cases_lt (length v) (prefix_len p ((v ++ o) ++ s))) [
          | inl past ↦ absurd (both_ways _ out (ap p (sym (stop_at s)) ∙ prefix_len_passes p ((v ++ o) ++ s) (length v) 0 past))
          | inr h ↦ h
        ]

    -- a run that ends before the bracket does not depend on what follows the bracket
    pub run_same : (p : ℕ → Bool) (s r : List ℕ) → prefix_len p ((v ++ o) ++ s) ≤ length v → prefix_len p ((v ++ o) ++ r) ≡ prefix_len p ((v ++ o) ++ s)
    run_same p s r h = run_inside p (v ++ o) s r (omega (arith, whole_size, bracket.some))

    pub drop_to : (i : ℕ) (s : List ℕ) → i ≤ length v → drop i ((v ++ o) ++ s) ≡ (drop i v ++ o) ++ s
    drop_to i s h = drop-append-le i (v ++ o) s (omega (arith, whole_size)) ∙ ap (λ w. w ++ s) (drop-append-le i v o h)

    pub take_same : (i : ℕ) (s r : List ℕ) → i ≤ length v → take i ((v ++ o) ++ s) ≡ take i ((v ++ o) ++ r)
    take_same i s r h =
        take-append-le i (v ++ o) s (omega (arith, whole_size)) ∙ sym (take-append-le i (v ++ o) r (omega (arith, whole_size)))

    -- whether a word of at most two bytes occurs before the bracket does not depend on what follows the bracket
    pub word_same : (w : List ℕ) (i : ℕ) (s r : List ℕ) → length w ≤ 2 → i < length v → occurs_at w i ((v ++ o) ++ s) ≡ occurs_at w i ((v ++ o) ++ r)
    word_same w i s r len h = stands_inside w i (v ++ o) s r (omega (arith, whole_size, bracket.some))

    dollar_here : (s : List ℕ) → is_half (get_or o 0 0) ≡ false → occurs_at (codes "${") (length v) ((v ++ o) ++ s) ≡ false
    dollar_here s e =
        let other : (get_or o 0 0 == 36) ≡ false = grind (arith, nat_tests) in
        and_left _ _ (ap (λ b. b == 36) (stop_at s) ∙ other)

    -- whether `${` occurs before the bracket, or as the bracket, does not depend on what follows it
    pub dollar_same : (i : ℕ) (s r : List ℕ) → i ≤ length v → occurs_at (codes "${") i ((v ++ o) ++ s) ≡ occurs_at (codes "${") i ((v ++ o) ++ r)
    dollar_same i s r h =
        elim (cases_lt i (length v)) [
          | inl less ↦ word_same (codes "${") i s r (omega arith) less
          | inr past ↦ (let here : i ≡ length v = omega arith in elim (cases_Bool (is_half (get_or o 0 0))) [
            | inl e ↦ stands_inside (codes "${") i (v ++ o) s r (omega (arith, whole_size, bracket.whole e))
            | inr e ↦ subst (λ k. occurs_at (codes "${") k ((v ++ o) ++ s) ≡ occurs_at (codes "${") k ((v ++ o) ++ r)) (sym here)
                (dollar_here s e ∙ sym (dollar_here r e))
          ])
        ]

  pub end_le : (v : List ℕ) (p : ℕ → Bool) (i : ℕ) (s : List ℕ) → p (get_or o 0 0) ≡ false → i ≤ length v → run_end p i ((v ++ o) ++ s) ≤ length v
  end_le v p i s out h =
      omega (arith, ap (prefix_len p) (drop_to v i s h), run_le (drop i v) p s out, length-drop i v)

  pub end_same : (v : List ℕ) (p : ℕ → Bool) (i : ℕ) (s r : List ℕ) → p (get_or o 0 0) ≡ false → i ≤ length v
      → run_end p i ((v ++ o) ++ r) ≡ run_end p i ((v ++ o) ++ s)
  end_same v p i s r out h =
      omega (
        arith,
        ap (prefix_len p) (drop_to v i s h),
        ap (prefix_len p) (drop_to v i r h),
        run_same (drop i v) p s r (run_le (drop i v) p s out),
      )

  module _ (v : List ℕ) (utf8 : IsUtf8 v) (s r : List ℕ) where
    chars_here : (x : List ℕ) → chars ((v ++ o) ++ x) ≡ chars v ++ (get_or o 0 0 ∷ chars (drop 1 o ++ x))
    chars_here x = chars_bracket v o x utf8 bracket.some (stop_ascii (get_or o 0 0) bracket.stop).0

    pub space_len_same : space_len ((v ++ o) ++ s) ≡ space_len ((v ++ o) ++ r)
    unfolding space_len
    space_len_same =
        let out = (stop_ascii (get_or o 0 0) bracket.stop).1 in
        rw (
          chars_here s,
          chars_here r,
          take_while_to is_whitespace (chars v) (chars (drop 1 o ++ s)) (get_or o 0 0) out,
          take_while_to is_whitespace (chars v) (chars (drop 1 o ++ r)) (get_or o 0 0) out,
        ) refl

    pub char_len_same : char_len ((v ++ o) ++ s) ≡ char_len ((v ++ o) ++ r)
    unfolding char_len
    char_len_same = rw (chars_here s, chars_here r, first_to (chars v) (chars (drop 1 o ++ s)) (chars (drop 1 o ++ r)) (get_or o 0 0)) refl

    pub begins_space_same : begins_space ((v ++ o) ++ s) ≡ begins_space ((v ++ o) ++ r)
    unfolding begins_space
    begins_space_same =
        ap (λ l. list_any is_whitespace (take 1 l)) (chars_here s)
        ∙ (ap (list_any is_whitespace) (take_one_to (chars v) (chars (drop 1 o ++ s)) (chars (drop 1 o ++ r)) (get_or o 0 0))
        ∙ sym (ap (λ l. list_any is_whitespace (take 1 l)) (chars_here r)))
