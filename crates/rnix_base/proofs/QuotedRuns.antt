-- Writing strings run by run.
use Rattle.std.proofs.Common.{◌≡◌, ◌∙◌, ℕ, ◌+◌, ◌<◌, suc, true, false, Bool, List, [], ◌∷◌, ◌++◌, length, get_or, take, drop, ap, sym, refl, subst, arith, inl, inr}
use Rattle.std.proofs.Common.{append_assoc}
use Rattle.std.proofs.lemmas.{Bool.cases_lt, Bool.Decides.nat_tests, List.drop_more, Str.{IsCharBoundary-end, IsCharBoundary-before_ascii, IsCharBoundary-after_ascii}}
use Rattle.std.proofs.lemmas.List.Sums.{prefix_len-le-length, prefix_len_stops}
use Rattle.std.specs.{Str.{IsCharBoundary, IsUtf8}, List.prefix_len}
use Rattle.rnix_base.specs.Quoted.{is_ordinary, escape_of, inside_of}

-- a byte that needs an escape is below 128
low : (b : ℕ) → is_ordinary b ≡ false → b < 128
low b h = grind (arith, nat_tests)

-- the plain bytes at the beginning of a text end at a character boundary
pub plain_boundary : (text : List ℕ) → IsCharBoundary text (prefix_len is_ordinary text)
plain_boundary text =
    let n = prefix_len is_ordinary text in
    elim (cases_lt n (length text)) [
      | inl within ↦ IsCharBoundary-before_ascii text n within (low (get_or text n 0) (prefix_len_stops is_ordinary text 0 within))
      | inr all ↦
          let same : length text ≡ n = omega (arith, prefix_len-le-length is_ordinary text) in
          subst (IsCharBoundary text) same (IsCharBoundary-end text)
    ]

-- so does the byte after them
pub behind_boundary : (text : List ℕ) → IsUtf8 text → prefix_len is_ordinary text < length text → IsCharBoundary text (prefix_len is_ordinary text + 1)
behind_boundary text utf8 within =
    let n = prefix_len is_ordinary text in
    IsCharBoundary-after_ascii text n utf8 within (low (get_or text n 0) (prefix_len_stops is_ordinary text 0 within))

-- a plain byte has no escape
itself : (b : ℕ) (rest : List ℕ) → is_ordinary b ≡ true → escape_of b rest ≡ b ∷ []
unfolding escape_of
itself b rest h = grind (arith, nat_tests)

-- what is written for a plain byte, or another one, in front of some bytes
plain_front : (b : ℕ) (bs : List ℕ) (e : Bool) → is_ordinary b ≡ e
    → inside_of bs ≡ take (prefix_len is_ordinary bs) bs ++ inside_of (drop (prefix_len is_ordinary bs) bs)
    → inside_of (b ∷ bs) ≡ take (prefix_len is_ordinary (b ∷ bs)) (b ∷ bs) ++ inside_of (drop (prefix_len is_ordinary (b ∷ bs)) (b ∷ bs))
unfolding inside_of
plain_front b bs true h rest =
    let n = prefix_len is_ordinary bs in
    let more : inside_of (b ∷ bs) ≡ take (suc n) (b ∷ bs) ++ inside_of (drop (suc n) (b ∷ bs)) =
    ap (λ l. l ++ inside_of bs) (itself b bs h) ∙ ap (λ l. b ∷ l) rest in
    let e : suc n ≡ 1 + n = omega arith in
    rw h (subst (λ k. inside_of (b ∷ bs) ≡ take k (b ∷ bs) ++ inside_of (drop k (b ∷ bs))) e more)
plain_front b bs false h rest = rw h refl

-- what is written for a text is its plain bytes, and what is written for the rest
plain_run : (text : List ℕ) → inside_of text ≡ take (prefix_len is_ordinary text) text ++ inside_of (drop (prefix_len is_ordinary text) text)
unfolding inside_of
plain_run [] = refl
plain_run (b ∷ bs) = plain_front b bs (is_ordinary b) refl (plain_run bs)

-- the plain bytes have been written, and the rest of the text remains
pub run_written : (old new text run rest : List ℕ) (n : ℕ) → n ≡ prefix_len is_ordinary text → run ≡ take n text → rest ≡ drop n text
    → new ≡ old ++ run → new ++ inside_of rest ≡ old ++ inside_of text
run_written old new text run rest n len is behind written =
    let whole : inside_of text ≡ take n text ++ inside_of (drop n text) = rw len (plain_run text) in
    rw (written, is, behind) (append_assoc old (take n text) (inside_of (drop n text)) ∙ ap (λ l. old ++ l) (sym whole))

-- so has the byte after them
pub byte_written : (old mid new text run rest : List ℕ) (n d : ℕ) → n ≡ prefix_len is_ordinary text → n < length text → run ≡ take n text
    → rest ≡ drop (n + 1) text → mid ≡ old ++ run → (is_ordinary (get_or text n d) ≡ false → new ≡ mid ++ escape_of (get_or text n d) rest)
    → new ++ inside_of rest ≡ old ++ inside_of text
unfolding inside_of
byte_written old mid new text run rest n d len within is behind first second =
    let b = get_or text n d in
    let stops : is_ordinary b ≡ false =
    subst (λ m. is_ordinary (get_or text m d) ≡ false) (sym len) (prefix_len_stops is_ordinary text d (subst (λ m. m < length text) len within)) in
    let front : escape_of b rest ++ inside_of rest ≡ inside_of (drop n text) =
    ap (λ l. inside_of (b ∷ l)) behind ∙ ap inside_of (sym (drop_more text n d within)) in
    ap (λ l. l ++ inside_of rest) (second stops) ∙ append_assoc mid (escape_of b rest) (inside_of rest) ∙ ap (λ l. mid ++ l) front
    ∙ run_written old mid text run (drop n text) n len is refl first
