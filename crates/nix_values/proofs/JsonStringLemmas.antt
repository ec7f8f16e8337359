-- JSON strings that are written run by run.
use Rattle.std.proofs.Common.{◌≡◌, ◌∙◌, ℕ, ◌+◌, ◌<◌, suc, true, false, Bool, List, [], ◌∷◌, ◌++◌, length, get_or, take, drop, ap, sym, refl, subst, arith, inl, inr}
use Rattle.std.proofs.Common.{append_assoc, take-append-drop}
use Rattle.std.proofs.lemmas.{Grind.flat_map-append, Bool.cases_lt, Bool.Decides.nat_tests, List.drop_more, Str.{IsCharBoundary-end, IsCharBoundary-before_ascii, IsCharBoundary-after_ascii}}
use Rattle.std.proofs.lemmas.List.Sums.{prefix_len-le-length, prefix_len_stops}
use Rattle.std.specs.{Str.{IsCharBoundary, IsUtf8}, List.{flat_map, prefix_len}}
use Rattle.nix_values.specs.JsonEscapes.{is_plain, escape}

-- a byte that needs an escape is below 128
low : (b : ℕ) → is_plain b ≡ false → b < 128
low b h = grind (arith, nat_tests)

-- the plain bytes at the beginning end at a character boundary
pub plain_boundary : (text : List ℕ) → IsCharBoundary text (prefix_len is_plain text)
plain_boundary text =
    let n = prefix_len is_plain text in
    elim (cases_lt n (length text)) [
      | inl within ↦ IsCharBoundary-before_ascii text n within (low (get_or text n 0) (prefix_len_stops is_plain text 0 within))
      | inr all ↦
          let same : length text ≡ n = omega (arith, prefix_len-le-length is_plain text) in
          subst (IsCharBoundary text) same (IsCharBoundary-end text)
    ]

-- the next byte is not a part of a longer character
pub behind_boundary : (text : List ℕ) → IsUtf8 text → prefix_len is_plain text < length text → IsCharBoundary text (prefix_len is_plain text + 1)
behind_boundary text utf8 within =
    let n = prefix_len is_plain text in
    IsCharBoundary-after_ascii text n utf8 within (low (get_or text n 0) (prefix_len_stops is_plain text 0 within))

-- a plain byte has no escape
itself : (b : ℕ) → is_plain b ≡ true → escape b ≡ b ∷ []
unfolding escape
itself b h = rw h refl

-- a run of plain bytes, whose first byte is plain or not
plain_front : (b : ℕ) (bs : List ℕ) (e : Bool) → is_plain b ≡ e → flat_map escape (take (prefix_len is_plain bs) bs) ≡ take (prefix_len is_plain bs) bs
    → flat_map escape (take (prefix_len is_plain (b ∷ bs)) (b ∷ bs)) ≡ take (prefix_len is_plain (b ∷ bs)) (b ∷ bs)
plain_front b bs true h rest = rw h (plain_more b bs (prefix_len is_plain bs) h rest)
  where
    plain_more : (b : ℕ) (bs : List ℕ) (n : ℕ) → is_plain b ≡ true → flat_map escape (take n bs) ≡ take n bs
        → flat_map escape (take (1 + n) (b ∷ bs)) ≡ take (1 + n) (b ∷ bs)
    plain_more b bs n h rest =
        let e : 1 + n ≡ suc n = omega arith in
        let front = ap (λ k. take k (b ∷ bs)) e in
        ap (flat_map escape) front ∙ ap (λ l. l ++ flat_map escape (take n bs)) (itself b h) ∙ ap (λ l. b ∷ l) rest ∙ sym front
plain_front b bs false h rest = rw h refl

-- the plain bytes at the beginning are written as they are
plain_run : (bs : List ℕ) → flat_map escape (take (prefix_len is_plain bs) bs) ≡ take (prefix_len is_plain bs) bs
plain_run [] = refl
plain_run (b ∷ bs) = plain_front b bs (is_plain b) refl (plain_run bs)

-- after they are written, the rest of the text remains
pub run_written : (old new text run rest : List ℕ) (n : ℕ) → n ≡ prefix_len is_plain text → run ≡ take n text → rest ≡ drop n text
    → new ≡ old ++ run → new ++ flat_map escape rest ≡ old ++ flat_map escape text
run_written old new text run rest n len is behind written =
    let plain : take n text ≡ flat_map escape (take n text) = rw len (sym (plain_run text)) in
    rw (written, is, behind)
    (append_assoc old (take n text) (flat_map escape (drop n text))
    ∙ ap (λ l. old ++ l) (ap (λ l. l ++ flat_map escape (drop n text)) plain
    ∙ sym (flat_map-append escape (take n text) (drop n text)) ∙ ap (flat_map escape) (take-append-drop n text)))

-- after the next byte is written, too
pub byte_written : (old mid new text run rest : List ℕ) (n d : ℕ) → n ≡ prefix_len is_plain text → n < length text → run ≡ take n text
    → rest ≡ drop (n + 1) text → mid ≡ old ++ run → (is_plain (get_or text n d) ≡ false → new ≡ mid ++ escape (get_or text n d))
    → new ++ flat_map escape rest ≡ old ++ flat_map escape text
byte_written old mid new text run rest n d len within is behind first second =
    let e = escape (get_or text n d) in
    let stops : is_plain (get_or text n d) ≡ false =
    subst (λ m. is_plain (get_or text m d) ≡ false) (sym len) (prefix_len_stops is_plain text d (subst (λ m. m < length text) len within)) in
    ap (λ l. l ++ flat_map escape rest) (second stops) ∙ append_assoc mid e (flat_map escape rest)
    ∙ ap (λ l. mid ++ l) (ap (λ l. e ++ flat_map escape l) behind ∙ ap (flat_map escape) (sym (drop_more text n d within)))
    ∙ run_written old mid text run (drop n text) n len is refl first
