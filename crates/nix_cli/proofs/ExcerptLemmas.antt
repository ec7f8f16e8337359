-- How texts with only simple characters are shown.
use Rattle.std.proofs.Common.{◌≡◌, ℕ, ◌+◌, ◌<◌, ◌≤◌, Bool, true, false, List, [], ◌∷◌, ◌++◌, length, take, get_or, refl, ap, sym, ◌∙◌, arith, suc, inl, inr}
use Rattle.std.proofs.lemmas.{List.{take_all, get_or_past, take-replicate}, List.Sums.prefix_len_passes, Str.{chars-IsAscii, encode_ascii}, Bool.{cases_lt, Decides.nat_tests}}
use Rattle.std.specs.{Str.{chars, IsAscii}, List.{flat_map, prefix_len}, Prelude.{replicate, nat_lt, ◌==◌}, Char.encode_utf8}
use Rattle.nix_cli.{specs.Excerpt.{is_simple, printed, shown, columns_of, spaces, carets, carets_below}, proofs.PlainRuns.{KeepsPlain, run_written}}

-- a simple character is ASCII
below : (c : ℕ) → is_simple c ≡ true → c < 128
below c h = grind (arith, nat_tests)

-- simple characters are ASCII
simple_ascii : (bs : List ℕ) → prefix_len is_simple bs ≡ length bs → IsAscii bs
simple_ascii bs h i =
    elim (cases_lt i (length bs)) [
      | inl within ↦ below _ (prefix_len_passes is_simple bs i 0 (omega arith))
      | inr past ↦ (let e : get_or bs i 0 ≡ 0 = get_or_past bs i 0 past in omega arith)
    ]

-- a simple character is printed as it is
keeps_simple : KeepsPlain is_simple shown
keeps_simple c h =
    let same : printed c ≡ c = grind (arith, nat_tests) in
    ap encode_utf8 same ∙ encode_ascii c (below c h)

-- and so are several
pub simple_shown : (bs : List ℕ) → prefix_len is_simple bs ≡ length bs → bs ≡ flat_map shown (chars bs)
simple_shown bs h =
    let all : take (length bs) bs ≡ bs = take_all (length bs) bs (omega arith) in
    sym all ∙ run_written is_simple shown keeps_simple bs (length bs) (sym h)
    ∙ ap (flat_map shown) (all ∙ sym (chars-IsAscii bs (simple_ascii bs h)))

-- one byte is written below a simple character that others follow
one_more : (f : ℕ → List ℕ) (x : ℕ) → ((c : ℕ) → is_simple c ≡ true → f c ≡ x ∷ []) → (b : ℕ) (bs : List ℕ) (e : Bool) → is_simple b ≡ e
    → (prefix_len is_simple bs ≡ length bs → flat_map f bs ≡ replicate (length bs) x)
    → prefix_len is_simple (b ∷ bs) ≡ length (b ∷ bs) → flat_map f (b ∷ bs) ≡ replicate (length (b ∷ bs)) x
one_more f x one b bs true h rest all =
    let less : 1 + prefix_len is_simple bs ≡ suc (length bs) = rw h at all in
    ap (λ l. l ++ flat_map f bs) (one b h) ∙ ap (λ l. x ∷ l) (rest (omega arith))
one_more f x one b bs false h rest all = let none : 0 ≡ suc (length bs) = rw h at all in absurd (omega arith)

-- one byte is written below each simple character
below_each : (f : ℕ → List ℕ) (x : ℕ) → ((c : ℕ) → is_simple c ≡ true → f c ≡ x ∷ []) → (bs : List ℕ)
    → prefix_len is_simple bs ≡ length bs → flat_map f bs ≡ replicate (length bs) x
below_each f x one [] h = refl
below_each f x one (b ∷ bs) h = one_more f x one b bs (is_simple b) refl (below_each f x one bs) h

-- a number that is less passes the test
early : (c n : ℕ) → c < n → nat_lt c n ≡ true
early c n h = grind (arith, nat_tests)

-- an ASCII character is one column wide
ascii_column : (c : ℕ) → c < 128 → columns_of c ≡ 1
unfolding columns_of
ascii_column c h =
    simp (
      early c 768 (omega arith),
      early c 8203 (omega arith),
      early c 65024 (omega arith),
      early c 4352 (omega arith),
      early c 11904 (omega arith),
      early c 12353 (omega arith),
      early c 44032 (omega arith),
      early c 63744 (omega arith),
      early c 65072 (omega arith),
      early c 65280 (omega arith),
      early c 65504 (omega arith),
      early c 127744 (omega arith),
      early c 129280 (omega arith),
      early c 131072 (omega arith),
    )

-- so is a simple one
one_column : (c : ℕ) → is_simple c ≡ true → columns_of c ≡ 1
one_column c h = ascii_column c (below c h)

-- the space below a simple character
one_space : (c : ℕ) → is_simple c ≡ true → spaces c ≡ 32 ∷ []
one_space c h = let width = one_column c h in grind (arith, nat_tests)

-- the caret below a simple character
one_caret : (c : ℕ) → is_simple c ≡ true → carets c ≡ 94 ∷ []
one_caret c h = rw (one_column c h) refl

-- the spaces below simple characters
pub simple_spaces : (bs : List ℕ) (n : ℕ) → length bs ≤ n → prefix_len is_simple bs ≡ length bs → take (length bs) (replicate n 32) ≡ flat_map spaces (chars bs)
simple_spaces bs n fits h =
    take-replicate (length bs) n 32 fits ∙ sym (below_each spaces 32 one_space bs h) ∙ ap (flat_map spaces) (sym (chars-IsAscii bs (simple_ascii bs h)))

-- the carets below simple characters
pub simple_carets : (bs : List ℕ) (n : ℕ) → length bs ≤ n → prefix_len is_simple bs ≡ length bs → take (length bs) (replicate n 94) ≡ flat_map carets (chars bs)
simple_carets bs n fits h =
    take-replicate (length bs) n 94 fits ∙ sym (below_each carets 94 one_caret bs h) ∙ ap (flat_map carets) (sym (chars-IsAscii bs (simple_ascii bs h)))

-- the carets below a text that is not empty
pub some_carets : (bs : List ℕ) (e : Bool) → e ≡ (length bs == 0) → e ≡ false → flat_map carets (chars bs) ≡ carets_below bs
some_carets [] e is other = cc
some_carets (b ∷ bs) e is other = refl
