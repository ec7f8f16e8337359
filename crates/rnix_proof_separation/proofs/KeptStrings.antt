-- The contents and the end of a string are the same before what may follow them in the string, and after it.
use Rattle.std.proofs.Common.{◌≡◌, ℕ, zero, suc, ◌+◌, ◌<◌, ◌≤◌, Bool, true, false, ◌&&◌, ◌||◌, ◌==◌, nat_lt, List, [], ◌∷◌, ◌++◌, length, get_or, drop, refl}
use Rattle.std.proofs.{Common.{sym, ap, ◌∙◌, arith, cond, length-append}, lemmas.{List.drop_at, Bool.{and_left, cond_both, eqb-false, ne_eqb, le-ltb, lt-ltb}}}
use Rattle.std.{proofs.lemmas.Bool.{ltb-false, true≢false, Decides.nat_tests}, specs.Prelude.codes}
use Rattle.rnix_kinds.specs.declared.{kinds.SyntaxKind.TheVariants.{TOKEN_INTERPOL_START, TOKEN_STRING_CONTENT, TOKEN_STRING_END}, tokenizer.rule.Cut.Cut}
use Rattle.rnix_kinds.specs.{declared.tokenizer.rule.{Change.TheVariants.{Stay, Open, Close}, Mode.TheVariants.Interpolation}, Lexical.Texts.begins}
use Rattle.rnix_kinds.specs.Lexical.{Plain.plain, Strings.{piece_len, content_from, content_len, string_cut}}
use Rattle.{rnix_kinds.proofs.LexicalLemmas.StringsLemmas.{content_len-stop, content_len-stops, content_len-le}, rnix_proof_separation.proofs.Appended.if_true}
use Rattle.rnix_proof_separation.proofs.{Appended.{if_false, same_byte, next_byte_at, is_edge}, KeptCuts.Fits, KeptOperators.word_kept}

-- the length of a piece, by its first three bytes
abbrev pub piece_of : Bool → ℕ → ℕ → ℕ → ℕ
piece_of multiline a b c =
    cond (a == 36 && b == 123) 0
    (cond (a == 36 && b == 36) 2
    (cond multiline
    (cond ((a == 39 && (b == 39 && c == 39)) || (a == 39 && (b == 39 && c == 36))) 3
    (cond (a == 39 && (b == 39 && c == 92)) 4
    (cond (a == 39 && b == 39) 0 1)))
    (cond (a == 34) 0 (cond (a == 92) 2 1))))

piece_same : (m : Bool) (a b c d e f : ℕ) → a ≡ d → b ≡ e → c ≡ f → piece_of m a b c ≡ piece_of m d e f
piece_same m a b c d e f p q r = ap (λ k. piece_of m k b c) p ∙ (ap (λ k. piece_of m d k c) q ∙ ap (piece_of m d e) r)

-- the third byte does not matter for a piece of one byte
third_free_true : (a b c d : ℕ) → piece_of true a b c ≡ 1 → piece_of true a b d ≡ 1
third_free_true a b c d e = grind (arith, nat_tests)

third_free : (m : Bool) (a b c d : ℕ) → piece_of m a b c ≡ 1 → piece_of m a b d ≡ 1
third_free true a b c d e = third_free_true a b c d e
third_free false a b c d e = e

-- `''` closes a string before white space
quotes_close : (c : ℕ) → is_edge c ≡ true → piece_of true 39 39 c ≡ 0
quotes_close c e = grind (arith, nat_tests)

closing_quotes : (a b c : ℕ) → piece_of true a b c ≡ 0 → (a == 36 && b == 123) ≡ false → (a ≡ 39) × (b ≡ 39)
closing_quotes a b c e f = (grind (arith, nat_tests), grind (arith, nat_tests))

closing_quote : (a b c : ℕ) → piece_of false a b c ≡ 0 → (a == 36 && b == 123) ≡ false → a ≡ 34
closing_quote a b c e f = grind (arith, nat_tests)

content_piece : (m : Bool) (n b : ℕ) (xs : List ℕ) → piece_len m (b ∷ xs) ≡ suc n → content_len m (b ∷ xs) ≡ 1 + content_from m n xs
unfolding content_from
content_piece m n b xs e = rw (e, content_from)

inside_step : (m : Bool) (k b : ℕ) (xs : List ℕ) → content_from m (suc k) (b ∷ xs) ≡ 1 + content_from m k xs
unfolding content_from
inside_step m k b xs = refl

-- if bytes of a piece are still to come, the content is not empty
inside_none : (m : Bool) (k : ℕ) (s : List ℕ) → 0 < length s → content_from m (suc k) s ≡ 0 → ⊥
inside_none m k [] some e = omega arith
inside_none m k (b ∷ s) some e = omega (arith, inside_step m k b s)

-- a piece before the end of the content is the same before another text that begins with the same byte
piece_kept : (m : Bool) (x : ℕ) (t s r : List ℕ) (k : ℕ) → piece_len m (x ∷ (t ++ s)) ≡ suc k → content_from m k (t ++ s) ≡ length t → 0 < length s
    → get_or r 0 0 ≡ get_or s 0 0 → piece_len m (x ∷ (t ++ r)) ≡ suc k
piece_kept m x [] s r zero e f some same =
    piece_same m x (get_or r 0 0) (get_or r 1 0) x (get_or s 0 0) (get_or r 1 0) refl same refl
    ∙ third_free m x (get_or s 0 0) (get_or s 1 0) (get_or r 1 0) e
piece_kept m x [] s r (suc k) e f some same = absurd (inside_none m k s some f)
piece_kept m x (y ∷ []) s r k e f some same = piece_same m x y (get_or r 0 0) x y (get_or s 0 0) refl refl same ∙ e
piece_kept m x (y ∷ z ∷ t) s r k e f some same = e

content_step : (m : Bool) (x : ℕ) (t s r : List ℕ) (n : ℕ) → piece_len m (x ∷ (t ++ s)) ≡ n → content_len m (x ∷ (t ++ s)) ≡ suc (length t) → 0 < length s
    → get_or r 0 0 ≡ get_or s 0 0 → ((k : ℕ) → content_from m k (t ++ s) ≡ length t → content_from m k (t ++ r) ≡ length t)
    → content_len m (x ∷ (t ++ r)) ≡ suc (length t)
content_step m x t s r zero e is some same more = absurd (omega (arith, content_len-stop m (x ∷ (t ++ s)) e, is))
content_step m x t s r (suc k) e is some same more =
    let inner : content_from m k (t ++ s) ≡ length t = omega (arith, content_piece m k x (t ++ s) e, is) in
    omega (arith, content_piece m k x (t ++ r) (piece_kept m x t s r k e inner some same), more k inner)

-- content is the same before another text that begins with the same byte and with no piece
pub content_kept : (m : Bool) (inside : ℕ) (t s r : List ℕ) → content_from m inside (t ++ s) ≡ length t → 0 < length s → get_or r 0 0 ≡ get_or s 0 0
    → piece_len m r ≡ 0 → content_from m inside (t ++ r) ≡ length t
content_kept m zero [] s r is some same stop = content_len-stop m r stop
content_kept m (suc k) [] s r is some same stop = absurd (inside_none m k s some is)
content_kept m (suc k) (x ∷ t) s r is some same stop =
    let inner : content_from m k (t ++ s) ≡ length t = omega (arith, inside_step m k x (t ++ s), is) in
    omega (arith, inside_step m k x (t ++ r), content_kept m k t s r inner some same stop)
content_kept m zero (x ∷ t) s r is some same stop =
    content_step m x t s r (piece_len m (x ∷ (t ++ s))) refl is some same (λ k inner. content_kept m k t s r inner some same stop)

-- the cut of `${`, and of the end of the string
abbrev pub opened : Cut
opened = record { kind = TOKEN_INTERPOL_START; len = 2; change = Open (Interpolation 0) }

abbrev pub closed : Bool → Cut
closed multiline = record { kind = TOKEN_STRING_END; len = cond multiline 2 1; change = Close }

-- where no piece begins, the cut is `${` or the end of the string
pub string_stop : (m : Bool) (x : List ℕ) → 0 < length x → piece_len m x ≡ 0 → string_cut m x ≡ cond (begins (codes "${") x) opened (closed m)
string_stop m x some stop =
    let none = content_len-stop m x stop in
    if_false (content_len m x == length x) _ _ _ (ne_eqb (content_len m x) (length x) (λ e. omega arith))
    (if_false (nat_lt 0 (content_len m x)) _ _ _ (le-ltb 0 (content_len m x) (omega arith)) refl)

-- the end of a string is the same before white space
pub stop_closed : (m : Bool) (t s r : List ℕ) → length t ≡ cond m 2 1 → piece_len m (t ++ s) ≡ 0 → begins (codes "${") (t ++ s) ≡ false
    → is_edge (get_or r 0 0) ≡ true → (piece_len m (t ++ r) ≡ 0) × (begins (codes "${") (t ++ r) ≡ false)
stop_closed true t s r len stop other edge =
    let quotes = closing_quotes (get_or (t ++ s) 0 0) (get_or (t ++ s) 1 0) (get_or (t ++ s) 2 0) stop other in
    let first : get_or (t ++ r) 0 0 ≡ 39 = same_byte t r s 0 (omega arith) ∙ quotes.0 in
    let second : get_or (t ++ r) 1 0 ≡ 39 = same_byte t r s 1 (omega arith) ∙ quotes.1 in (
      piece_same true _ _ _ 39 39 (get_or r 0 0) first second (next_byte_at t r 2 (sym len)) ∙ quotes_close (get_or r 0 0) edge,
      and_left _ _ (ap (λ b. b == 36) first),
    )
stop_closed false t s r len stop other edge =
    let quote = closing_quote (get_or (t ++ s) 0 0) (get_or (t ++ s) 1 0) (get_or (t ++ s) 2 0) stop other in
    let first : get_or (t ++ r) 0 0 ≡ 34 = same_byte t r s 0 (omega arith) ∙ quote in
    (ap (λ k. piece_of false k (get_or (t ++ r) 1 0) (get_or (t ++ r) 2 0)) first, and_left _ _ (ap (λ b. b == 36) first))

-- `${` does not depend on what follows
pub stop_opened : (m : Bool) (t s r : List ℕ) → 2 ≤ length t → begins (codes "${") (t ++ s) ≡ true
    → (piece_len m (t ++ r) ≡ 0) × (begins (codes "${") (t ++ r) ≡ true)
stop_opened m t s r len e =
    let dollar = word_kept t s r (codes "${") len e in
    (if_true (begins (codes "${") (t ++ r)) _ _ _ dollar refl, dollar)

-- if the first text is not empty and begins with no piece, the second begins with the same byte and with no piece
abbrev pub GoesOn : Bool → List ℕ → List ℕ → Type 0
GoesOn m s r = piece_len m s ≡ 0 → 0 < length s → (get_or r 0 0 ≡ get_or s 0 0) × (piece_len m r ≡ 0) × (0 < length r)

-- a cut inside a string is the same before another text that continues the string alike
abbrev pub IsStringAgain : Bool → List ℕ → List ℕ → List ℕ → Cut → Type 0
IsStringAgain m t s r cut = (cut.change ≡ Stay → GoesOn m s r) → (cut.change ≡ Close → is_edge (get_or r 0 0) ≡ true) → string_cut m (t ++ r) ≡ cut

module _ (m : Bool) (t s r : List ℕ) (some : 0 < length t) where
  appended : (x : List ℕ) → 0 < length (t ++ x)
  appended x = omega (arith, length-append t x)

  content_same : content_len m (t ++ s) < length (t ++ s) → content_len m (t ++ s) ≡ length t → GoesOn m s r
      → string_cut m (t ++ r) ≡ plain TOKEN_STRING_CONTENT (content_len m (t ++ s))
  content_same before len on =
      let size = length-append t s in
      let longer = length-append t r in
      let stop : piece_len m s ≡ 0 = ap (piece_len m) (sym (drop_at t s (content_len m (t ++ s)) (sym len))) ∙ content_len-stops m (t ++ s) before in
      let next = on stop (omega arith) in
      let more : 0 < length r = next.2 in
      let same : content_len m (t ++ r) ≡ length t = content_kept m 0 t s r len (omega arith) next.0 next.1 in
      if_false (content_len m (t ++ r) == length (t ++ r)) _ _ _ (ne_eqb _ _ (λ e. omega arith))
      (if_true (nat_lt 0 (content_len m (t ++ r))) _ _ _ (lt-ltb 0 _ (omega arith)) (ap (plain TOKEN_STRING_CONTENT) (same ∙ sym len)))

  -- a token inside a string is the same before another text that continues the string alike
  pub string_kept : Fits t (string_cut m (t ++ s)) → IsStringAgain m t s r (string_cut m (t ++ s))
  string_kept =
      cond_both (content_len m (t ++ s) == length (t ++ s)) _ _ (λ (c : Cut). Fits t c → IsStringAgain m t s r c) (λ e fits. absurd (true≢false fits.1))
      (λ e. cond_both (nat_lt 0 (content_len m (t ++ s))) _ _ (λ (c : Cut). Fits t c → IsStringAgain m t s r c)
      (λ f fits on apart. let other = eqb-false (content_len m (t ++ s)) (length (t ++ s)) e in
      content_same (omega (arith, content_len-le m (t ++ s))) fits.0 (on refl))
      (λ f. cond_both (begins (codes "${") (t ++ s)) opened (closed m) (λ (c : Cut). Fits t c → IsStringAgain m t s r c)
      (λ g fits on apart. let kept = stop_opened m t s r (omega (arith, fits.0)) g in
      string_stop m (t ++ r) (appended r) kept.0 ∙ if_true (begins (codes "${") (t ++ r)) _ _ _ kept.1 refl)
      (λ g fits on apart. let none : content_len m (t ++ s) ≡ 0 = omega (arith, ltb-false 0 (content_len m (t ++ s)) f) in
      let stop : piece_len m (t ++ s) ≡ 0 =
      ap (λ k. piece_len m (drop k (t ++ s))) (sym none) ∙ content_len-stops m (t ++ s) (omega (arith, appended s)) in
      let kept = stop_closed m t s r (sym fits.0) stop g (apart refl) in
      string_stop m (t ++ r) (appended r) kept.0 ∙ if_false (begins (codes "${") (t ++ r)) _ _ _ kept.1 refl)))
