-- Facts about the functions on texts.
use Rattle.std.proofs.Common.{eqb-true, eq-eqb, ◌≡◌, ℕ, zero, suc, ◌+◌, ◌-◌, ◌<◌, ◌≤◌, Bool, true, false, cond, ◌&&◌, ◌==◌, nat_lt, List, [], ◌∷◌, ◌++◌, length}
use Rattle.std.proofs.Common.{get_or, drop, IsUtf8, refl, sym, ap, ◌∙◌, subst, inl, inr, arith, add-one, add-zero, zero-add, get_or-drop, append_assoc}
use Rattle.std.proofs.{Common.{length-append, length-drop}, lemmas.{Bool.{cases_lt, and_parts, Decides.nat_tests}, List.{drop_more, get_or_past}}}
use Rattle.std.proofs.lemmas.{List.Sums.{prefix_len-le-length, prefix_len_passes, prefix_len_stops}, Str.{chars-nil, encode_ascii, encodes-chars}}
use Rattle.std.proofs.lemmas.Str.{scalars-chars, len_utf8_bounds, IsCharBoundary-past_char, IsCharBoundary-at_seam, IsCharBoundary-start, IsCharBoundary-end}
use Rattle.std.{proofs.lemmas.Str.{IsCharBoundary-before_ascii, IsCharBoundary-after_ascii}, specs.{List.{prefix_len, take_while}, Char.is_whitespace}}
use Rattle.std.specs.{Char.len_utf8, Str.{chars, encode_utf8_all, all_scalars, skip_leading_whitespace, trim_start, IsCharBoundary}}
use Rattle.rnix_kinds.specs.declared.tokenizer.{ahead.Ahead.Ahead, text.Class.{Class, TheVariants.{Digit, Name, Path, Step, Scheme, Angle, Uri, Line, Content, Blank, Comment}}}
use Rattle.rnix_kinds.specs.Lexical.{Classes.class_test, Ahead.{IsRunEnd, IsAhead}, Texts.{before_pair, is_blank, space_len, char_len}}
use lib.Utf8.{encode}

-- one step of `before_pair`, at an index
pub before_pair-turn : (a b : ℕ) (xs : List ℕ) (i : ℕ) → i < length xs
    → before_pair a b (drop i xs) ≡ cond ((get_or xs i 0 == a) && (get_or xs (i + 1) 0 == b)) 0 (1 + before_pair a b (drop (i + 1) xs))
unfolding before_pair
before_pair-turn a b xs i h =
    let next : get_or (drop (i + 1) xs) 0 0 ≡ get_or xs (i + 1) 0 = rw (get_or-drop (i + 1) xs 0 0, add-zero) in
    rw (drop_more xs i 0 h, next)

pub before_pair-nil : (a b : ℕ) → before_pair a b [] ≡ 0
unfolding before_pair
before_pair-nil a b = refl

-- an ASCII byte is a character
chars-ascii : (b : ℕ) (text : List ℕ) → b < 128 → chars (b ∷ text) ≡ b ∷ chars text
unfolding chars
chars-ascii b [] h = let low : nat_lt b 128 ≡ true = grind (arith, nat_tests) in rw low refl
chars-ascii b (c ∷ text) h = let low : nat_lt b 128 ≡ true = grind (arith, nat_tests) in rw low refl

-- white space ends before an ASCII byte that is none, and at the end of the text
pub space_len-stop : (text : List ℕ) → get_or text 0 0 < 128 → is_whitespace (get_or text 0 0) ≡ false → space_len text ≡ 0
unfolding space_len
space_len-stop [] low out = rw chars-nil refl
space_len-stop (b ∷ text) low out = rw (chars-ascii b text low, out) refl

blank_more : (b : ℕ) (cs : List ℕ) → b < 128 → is_whitespace b ≡ true
    → length (encode_utf8_all (take_while is_whitespace (b ∷ cs))) ≡ 1 + length (encode_utf8_all (take_while is_whitespace cs))
blank_more b cs low white =
    let more : 1 + prefix_len is_whitespace cs ≡ suc (prefix_len is_whitespace cs) = omega arith in
    rw (white, more) (omega (arith, length-append (encode b) (encode_utf8_all (take_while is_whitespace cs)), ap length (encode_ascii b low)))

-- white space continues after an ASCII byte that is white space
pub space_len-step : (b : ℕ) (text : List ℕ) → b < 128 → is_whitespace b ≡ true → space_len (b ∷ text) ≡ 1 + space_len text
unfolding space_len
space_len-step b text low white = rw (chars-ascii b text low) (blank_more b (chars text) low white)

-- a blank is an ASCII byte and white space
blank_is : (b : ℕ) → is_blank b ≡ true → (b < 128) × (is_whitespace b ≡ true)
blank_is b e = grind (arith, nat_tests)

no_blank : (b : ℕ) → b < 128 → is_blank b ≡ false → is_whitespace b ≡ false
no_blank b low e = grind (arith, nat_tests)

-- if an ASCII byte or nothing follows the blanks at the beginning, they are all of the white space there
pub space_len-blanks : (text : List ℕ) → get_or text (prefix_len is_blank text) 0 < 128 → space_len text ≡ prefix_len is_blank text
space_len-blanks [] h = space_len-stop [] (omega arith) refl
space_len-blanks (b ∷ text) h = blank_cases (space_len-blanks text) (is_blank b) refl h
  where
    blank_cases : (get_or text (prefix_len is_blank text) 0 < 128 → space_len text ≡ prefix_len is_blank text) → (c : Bool) → is_blank b ≡ c
        → get_or (b ∷ text) (prefix_len is_blank (b ∷ text)) 0 < 128 → space_len (b ∷ text) ≡ prefix_len is_blank (b ∷ text)
    blank_cases more true e h =
        let one : 1 + prefix_len is_blank text ≡ suc (prefix_len is_blank text) = omega arith in
        rw e (space_len-step b text (blank_is b e).0 (blank_is b e).1 ∙ ap (λ n. 1 + n) (more (rw (e, one) at h)))
    blank_cases more false e h = rw e (space_len-stop (b ∷ text) (rw e at h) (no_blank b (rw e at h) e))

shows : (b : ℕ) → 32 < b → b < 127 → is_whitespace b ≡ false
shows b low high = grind (arith, nat_tests)

-- a single blank before a visible ASCII byte is all of the white space
pub space_len-one : (text : List ℕ) → is_blank (get_or text 0 0) ≡ true → 32 < get_or text 1 0 → get_or text 1 0 < 127 → space_len text ≡ 1
space_len-one [] white low high = absurd (omega arith)
space_len-one (b ∷ text) white low high =
    space_len-step b text (blank_is b white).0 (blank_is b white).1 ∙ ap (λ n. 1 + n) (space_len-stop text (omega arith) (shows _ low high))

space_step : (c : ℕ) (cs : List ℕ) (b : Bool) → is_whitespace c ≡ b
    → encode_utf8_all (take_while is_whitespace cs) ++ encode_utf8_all (skip_leading_whitespace cs) ≡ encode_utf8_all cs
    → encode_utf8_all (take_while is_whitespace (c ∷ cs)) ++ encode_utf8_all (skip_leading_whitespace (c ∷ cs)) ≡ encode_utf8_all (c ∷ cs)
space_step c cs true e h =
    let more : 1 + prefix_len is_whitespace cs ≡ suc (prefix_len is_whitespace cs) = omega arith in
    rw (e, more, append_assoc, h)
space_step c cs false e h = rw e

-- the white space at the beginning and the rest are the whole text
space_split : (cs : List ℕ) → encode_utf8_all (take_while is_whitespace cs) ++ encode_utf8_all (skip_leading_whitespace cs) ≡ encode_utf8_all cs
space_split [] = refl
space_split (c ∷ cs) = space_step c cs (is_whitespace c) refl (space_split cs)

pub space_len-trim_start : (text : List ℕ) → IsUtf8 text → length text - length (trim_start text) ≡ space_len text
unfolding space_len trim_start
space_len-trim_start text utf8 =
    let parts : encode_utf8_all (take_while is_whitespace (chars text)) ++ encode_utf8_all (skip_leading_whitespace (chars text)) ≡ text
    = space_split (chars text) ∙ encodes-chars text utf8 in
    omega (arith, simp length-append at (ap length parts))

-- an index at which a byte other than 0 is read is within the text
pub within_from_byte : (xs : List ℕ) (i : ℕ) → 0 < get_or xs i 0 → i < length xs
within_from_byte xs i h = elim (cases_lt i (length xs)) [ inl within ↦ within | inr past ↦ absurd (omega (arith, get_or_past xs i 0 past)) ]

after_ascii_run : (p : ℕ → Bool) (bs : List ℕ) (n : ℕ) → prefix_len p bs ≡ n → IsUtf8 bs → ((c : ℕ) → p c ≡ true → c < 128) → IsCharBoundary bs n
after_ascii_run p bs zero e utf8 ascii = IsCharBoundary-start bs utf8
after_ascii_run p bs (suc k) e utf8 ascii =
    rw (← add-one) (IsCharBoundary-after_ascii bs k utf8 (omega (arith, prefix_len-le-length p bs)) (ascii _ (prefix_len_passes p bs k 0 (omega arith))))

-- a run of ASCII bytes ends at a character boundary
pub IsCharBoundary-ascii_run : (p : ℕ → Bool) (bs : List ℕ) → IsUtf8 bs → ((c : ℕ) → p c ≡ true → c < 128) → IsCharBoundary bs (prefix_len p bs)
IsCharBoundary-ascii_run p bs = after_ascii_run p bs _ refl

-- so does a run that only an ASCII byte ends
pub IsCharBoundary-wide_run : (p : ℕ → Bool) (bs : List ℕ) → ((c : ℕ) → p c ≡ false → c < 128) → IsCharBoundary bs (prefix_len p bs)
IsCharBoundary-wide_run p bs ascii =
    elim (cases_lt (prefix_len p bs) (length bs)) [
      | inl within ↦ IsCharBoundary-before_ascii bs _ within (ascii _ (prefix_len_stops p bs 0 within))
      | inr past ↦ subst (IsCharBoundary bs) (omega (arith, prefix_len-le-length p bs)) (IsCharBoundary-end bs)
    ]

-- so does a run of any class
pub IsCharBoundary-run : (class : Class) (bs : List ℕ) → IsUtf8 bs → IsCharBoundary bs (prefix_len (class_test class) bs)
IsCharBoundary-run Digit bs utf8 = IsCharBoundary-ascii_run (class_test Digit) bs utf8 (λ c e. grind (arith, nat_tests))
IsCharBoundary-run Name bs utf8 = IsCharBoundary-ascii_run (class_test Name) bs utf8 (λ c e. grind (arith, nat_tests))
IsCharBoundary-run Path bs utf8 = IsCharBoundary-ascii_run (class_test Path) bs utf8 (λ c e. grind (arith, nat_tests))
IsCharBoundary-run Step bs utf8 = IsCharBoundary-ascii_run (class_test Step) bs utf8 (λ c e. grind (arith, nat_tests))
IsCharBoundary-run Scheme bs utf8 = IsCharBoundary-ascii_run (class_test Scheme) bs utf8 (λ c e. grind (arith, nat_tests))
IsCharBoundary-run Angle bs utf8 = IsCharBoundary-ascii_run (class_test Angle) bs utf8 (λ c e. grind (arith, nat_tests))
IsCharBoundary-run Uri bs utf8 = IsCharBoundary-ascii_run (class_test Uri) bs utf8 (λ c e. grind (arith, nat_tests))
IsCharBoundary-run Content bs utf8 = IsCharBoundary-wide_run (class_test Content) bs (λ c e. grind (arith, nat_tests))
IsCharBoundary-run Line bs utf8 = IsCharBoundary-wide_run (class_test Line) bs (λ c e. grind (arith, nat_tests))
IsCharBoundary-run Comment bs utf8 = IsCharBoundary-wide_run (class_test Comment) bs (λ c e. grind (arith, nat_tests))
IsCharBoundary-run Blank bs utf8 = IsCharBoundary-ascii_run (class_test Blank) bs utf8 (λ c e. grind (arith, nat_tests))

prefix_len_drop_step : (p : ℕ → Bool) (b : Bool) (n x : ℕ) (xs : List ℕ) → p x ≡ b → suc n < prefix_len p (x ∷ xs)
    → (n < prefix_len p xs → prefix_len p (drop n xs) ≡ prefix_len p xs - n) → prefix_len p (drop n xs) ≡ prefix_len p (x ∷ xs) - suc n
prefix_len_drop_step p true n x xs e h more =
    let whole : prefix_len p (x ∷ xs) ≡ 1 + prefix_len p xs = rw e in
    let here = more (omega arith) in
    omega arith
prefix_len_drop_step p false n x xs e h more =
    let none : prefix_len p (x ∷ xs) ≡ 0 = rw e in
    absurd (omega arith)

-- without its first bytes, a run is shorter by these
prefix_len-drop : (p : ℕ → Bool) (n : ℕ) (xs : List ℕ) → n < prefix_len p xs → prefix_len p (drop n xs) ≡ prefix_len p xs - n
prefix_len-drop p zero xs h = omega arith
prefix_len-drop p (suc n) [] h = absurd (omega arith)
prefix_len-drop p (suc n) (x ∷ xs) h = prefix_len_drop_step p (p x) n x xs refl h (prefix_len-drop p n xs)

-- where a run ends does not depend on how much of it was passed
pub IsRunEnd-pass : (class : Class) (remaining n : ℕ) (text : List ℕ) → IsRunEnd class remaining text → IsRunEnd class remaining (drop n text)
IsRunEnd-pass class remaining n text ahead inside =
    let size = length-drop n text in
    let is = ahead (omega arith) in
    let more = prefix_len-drop (class_test class) n text (omega arith) in
    omega arith

pub IsAhead-pass : (runs : Ahead) (n : ℕ) (text : List ℕ) → IsAhead runs text → IsAhead runs (drop n text)
IsAhead-pass runs n text ahead = record {
  step = IsRunEnd-pass Step runs.step n text ahead.step;
  scheme = IsRunEnd-pass Scheme runs.scheme n text ahead.scheme;
  angle = IsRunEnd-pass Angle runs.angle n text ahead.angle;
}

scalars-skip : (cs : List ℕ) → all_scalars cs ≡ true → all_scalars (skip_leading_whitespace cs) ≡ true
scalars-skip [] e = refl
scalars-skip (c ∷ cs) e =
    elim (is_whitespace c) as (λ b. all_scalars (cond b (skip_leading_whitespace cs) (c ∷ cs)) ≡ true) [
      | true ↦ scalars-skip cs (and_parts _ _ e).1
      | false ↦ e
    ]

pub IsCharBoundary-space_len : (text : List ℕ) → IsUtf8 text → IsCharBoundary text (space_len text)
unfolding space_len
IsCharBoundary-space_len text utf8 =
    IsCharBoundary-at_seam text _ _ (sym (space_split (chars text) ∙ encodes-chars text utf8))
    (skip_leading_whitespace (chars text), (scalars-skip (chars text) (scalars-chars text utf8), refl))

char_boundary : (text cs : List ℕ) → chars text ≡ cs → encode_utf8_all (chars text) ≡ text → IsUtf8 text → 0 < length text
    → IsCharBoundary text (len_utf8 (get_or (chars text) 0 0))
char_boundary text [] e spelt utf8 some = let none : [] ≡ text = rw e at spelt in absurd (omega (arith, ap length none))
char_boundary text (c ∷ cs) e spelt utf8 some =
    let parts = rw e at spelt in
    rw e (subst (IsCharBoundary text) (zero-add (len_utf8 c)) (IsCharBoundary-past_char text (encode_utf8_all cs) 0 c (omega arith) utf8 (sym parts)))

pub IsCharBoundary-char_len : (text : List ℕ) → IsUtf8 text → 0 < length text → IsCharBoundary text (char_len text)
unfolding char_len
IsCharBoundary-char_len text utf8 some = char_boundary text (chars text) refl (encodes-chars text utf8) utf8 some

pub char_len_some : (text : List ℕ) → 0 < char_len text
unfolding char_len
char_len_some text = omega (arith, (len_utf8_bounds (get_or (chars text) 0 0)).0)

pub before_pair-le : (a b : ℕ) (xs : List ℕ) → before_pair a b xs ≤ length xs
unfolding before_pair
before_pair-le a b [] = omega arith
before_pair-le a b (x ∷ xs) =
    elim (x == a && get_or xs 0 0 == b) as (λ t. cond t 0 (1 + before_pair a b xs) ≤ suc (length xs)) [
      | true ↦ omega arith
      | false ↦ omega (arith, before_pair-le a b xs)
    ]

found_step : (a b x : ℕ) (xs : List ℕ) (t : Bool) → (x == a && get_or xs 0 0 == b) ≡ t
    → (before_pair a b xs < length xs → get_or xs (before_pair a b xs + 1) 0 ≡ b)
    → before_pair a b (x ∷ xs) < suc (length xs) → get_or (x ∷ xs) (before_pair a b (x ∷ xs) + 1) 0 ≡ b
unfolding before_pair
found_step a b x xs true e more h = rw e (eqb-true (get_or xs 0 0) b (and_parts _ _ e).1)
found_step a b x xs false e more h =
    let less = rw e at h in
    let next : 1 + before_pair a b xs + 1 ≡ suc (before_pair a b xs + 1) = omega arith in
    rw (e, next) (more (omega arith))

-- the pair's bytes follow the bytes before the pair
pub before_pair-found : (a b : ℕ) (xs : List ℕ) → before_pair a b xs < length xs → get_or xs (before_pair a b xs + 1) 0 ≡ b
before_pair-found a b [] h = absurd (omega arith)
before_pair-found a b (x ∷ xs) h = found_step a b x xs _ refl (before_pair-found a b xs) h

begins_step : (a b x : ℕ) (xs : List ℕ) (t : Bool) → (x == a && get_or xs 0 0 == b) ≡ t
    → (before_pair a b xs < length xs → get_or xs (before_pair a b xs) 0 ≡ a)
    → before_pair a b (x ∷ xs) < suc (length xs) → get_or (x ∷ xs) (before_pair a b (x ∷ xs)) 0 ≡ a
unfolding before_pair
begins_step a b x xs true e more h = rw e (eqb-true x a (and_parts _ _ e).0)
begins_step a b x xs false e more h =
    let less = rw e at h in
    let next : 1 + before_pair a b xs ≡ suc (before_pair a b xs) = omega arith in
    rw (e, next) (more (omega arith))

pub before_pair-begins : (a b : ℕ) (xs : List ℕ) → before_pair a b xs < length xs → get_or xs (before_pair a b xs) 0 ≡ a
before_pair-begins a b [] h = absurd (omega arith)
before_pair-begins a b (x ∷ xs) h = begins_step a b x xs _ refl (before_pair-begins a b xs) h

-- there is no earlier pair
pub before_pair-first : (a b : ℕ) (xs : List ℕ) (k : ℕ) → get_or xs k 0 ≡ a → get_or xs (k + 1) 0 ≡ b → k < length xs → before_pair a b xs ≤ k
unfolding before_pair
before_pair-first a b [] k e f h = absurd (omega arith)
before_pair-first a b (x ∷ xs) zero e f h =
    let both : (x == a && get_or xs 0 0 == b) ≡ true = rw (e, f, eq-eqb a a refl, eq-eqb b b refl) refl in
    rw both (omega arith)
before_pair-first a b (x ∷ xs) (suc k) e f h =
    let next : suc k + 1 ≡ suc (k + 1) = omega arith in
    let more = before_pair-first a b xs k e (rw next at f) (omega arith) in
    elim (x == a && get_or xs 0 0 == b) as (λ t. cond t 0 (1 + before_pair a b xs) ≤ suc k) [ true ↦ omega arith | false ↦ omega arith ]
