-- Where blanks begin, and that these positions are character boundaries.
use Rattle.std.proofs.Common.{◌≡◌, ℕ, zero, suc, ◌+◌, ◌-◌, ◌<◌, ◌≤◌, inl, inr, Bool, true, false, List, [], length, take, drop, refl, sym, ap, ◌∙◌, subst, arith}
use Rattle.std.proofs.lemmas.{Bool.{Decides.nat_tests, cases_lt, false≢true}, List.get_or_past, Str.{IsCharBoundary-before_ascii, IsCharBoundary-after_ascii}}
use Rattle.std.specs.{Prelude.{◌==◌, if◌then◌else◌, slice_index}, Str.{IsUtf8, IsCharBoundary}}
use Rattle.rnix_edit.specs.Blanks.{is_blank, byte_before, blanks_start, blanks_before}

-- if there is a blank before an offset, the offset is not 0
pub blank_inside : (text : List ℕ) (n : ℕ) → is_blank (byte_before text n) ≡ true → 1 ≤ n
blank_inside text zero is = absurd (false≢true is)
blank_inside text (suc n) is = omega arith

-- the byte before the next offset
byte_at : (text : List ℕ) (n : ℕ) → byte_before text (suc n) ≡ slice_index text n
byte_at text n =
    let less : suc n - 1 ≡ n = omega arith in
    let test : (suc n == 0) ≡ false = grind (arith, nat_tests) in
    ap (λ b. if b then 10 else slice_index text (suc n - 1)) test ∙ ap (slice_index text) less

-- passing one more blank
pub blank_passed : (text : List ℕ) (n : ℕ) → is_blank (byte_before text n) ≡ true → blanks_start text (n - 1) ≡ blanks_start text n
blank_passed text zero is = refl
blank_passed text (suc n) is =
    let less : suc n - 1 ≡ n = omega arith in
    ap (blanks_start text) less ∙ ap (λ b. if b then blanks_start text n else suc n) (sym (ap is_blank (sym (byte_at text n)) ∙ is))

-- if no blank remains, the blanks begin here
pub blanks_passed : (text : List ℕ) (n : ℕ) → is_blank (byte_before text n) ≡ false → n ≡ blanks_start text n
blanks_passed text zero fails = refl
blanks_passed text (suc n) fails = ap (λ b. if b then blanks_start text n else suc n) (sym (ap is_blank (sym (byte_at text n)) ∙ fails))

-- the bytes between where blanks begin and where they end are blanks, whether or not the last byte is one
between_by : (text : List ℕ) (n k : ℕ) (b : Bool) → is_blank (slice_index text n) ≡ b → (if b then blanks_start text n else suc n) ≤ k → k < suc n →
    (blanks_start text n ≤ k → k < n → is_blank (slice_index text k) ≡ true) → is_blank (slice_index text k) ≡ true
between_by text n k true is low high before =
    elim (cases_lt k n) [
      | inl less ↦ before low less
      | inr most ↦ (let same : n ≡ k = omega arith in subst (λ i. is_blank (slice_index text i) ≡ true) same is)
    ]
between_by text n k false is low high before = absurd (omega arith)

-- the bytes between where blanks begin and where they end are blanks
blanks_between : (text : List ℕ) (n k : ℕ) → blanks_start text n ≤ k → k < n → is_blank (slice_index text k) ≡ true
blanks_between text zero k low high = absurd (omega arith)
blanks_between text (suc n) k low high = between_by text n k (is_blank (slice_index text n)) refl low high (blanks_between text n k)

-- a blank is ASCII
blank_is_ascii : (byte : ℕ) → is_blank byte ≡ true → byte < 128
blank_is_ascii byte is = grind (arith, nat_tests)

-- a blank is inside the text
blank_is_there : (text : List ℕ) (k : ℕ) → is_blank (slice_index text k) ≡ true → k < length text
blank_is_there text k is =
    elim (cases_lt k (length text)) [
      | inl less ↦ less
      | inr past ↦ absurd (false≢true (ap is_blank (sym (get_or_past text k 0 past)) ∙ is))
    ]

-- blanks begin and end at character boundaries
pub blanks_cut : (text : List ℕ) (n : ℕ) → IsUtf8 text → blanks_start text n < n → IsCharBoundary text (blanks_start text n) × IsCharBoundary text n
blanks_cut text n utf8 some =
    let first : is_blank (slice_index text (blanks_start text n)) ≡ true = blanks_between text n (blanks_start text n) (omega arith) some in
    let last : is_blank (slice_index text (n - 1)) ≡ true = blanks_between text n (n - 1) (omega arith) (omega arith) in
    let whole : n - 1 + 1 ≡ n = omega arith in (
      IsCharBoundary-before_ascii text (blanks_start text n) (blank_is_there text _ first) (blank_is_ascii _ first),
      subst (IsCharBoundary text) whole (IsCharBoundary-after_ascii text (n - 1) utf8 (blank_is_there text _ last) (blank_is_ascii _ last)),
    )

-- if blanks do not begin and end at character boundaries, there are none
pub no_blanks : (text : List ℕ) (n : ℕ) → IsUtf8 text →
    (blanks_start text n ≤ n → IsCharBoundary text (blanks_start text n) → ¬ (IsCharBoundary text n)) → [] ≡ blanks_before text n
no_blanks text n utf8 uncut =
    elim (cases_lt (blanks_start text n) n) [
      | inl some ↦ (let cut = blanks_cut text n utf8 some in absurd (uncut (omega arith) cut.0 cut.1))
      | inr none ↦ (let zero_long : 0 ≡ n - blanks_start text n = omega arith in ap (λ m. take m (drop (blanks_start text n) text)) zero_long)
    ]
