-- Sequences of the pieces of a string.
use Rattle.std.proofs.Common.{◌≡◌, ℕ, zero, suc, ◌+◌, ◌<◌, ◌≤◌, Bool, true, false, List, [], ◌∷◌, length, drop, refl, ap, arith}
use Rattle.std.{proofs.lemmas.{Bool.Decides.nat_tests, List.drop-drop}, specs.List.prefix_len}
use Rattle.rnix_kinds.specs.{declared.tokenizer.text.Class.TheVariants.Content, Lexical.{Classes.class_test, Texts.run_end, Strings.{piece_len, content_from}}}
use Rattle.rnix_kinds.specs.Lexical.Strings.{content_len}

-- the rest of an open piece is part of the content
content_from-inside : (m : Bool) (inside : ℕ) (xs : List ℕ) → inside ≤ length xs → content_from m inside xs ≡ inside + content_from m 0 (drop inside xs)
unfolding content_from
content_from-inside m zero xs h = omega arith
content_from-inside m (suc k) [] h = absurd (omega arith)
content_from-inside m (suc k) (x ∷ xs) h = omega (arith, content_from-inside m k xs (omega arith))

-- if the text ends inside an open piece, all of it is content
content_from-past : (m : Bool) (inside : ℕ) (xs : List ℕ) → length xs ≤ inside → content_from m inside xs ≡ length xs
unfolding content_from
content_from-past m zero [] h = refl
content_from-past m zero (x ∷ xs) h = absurd (omega arith)
content_from-past m (suc k) [] h = refl
content_from-past m (suc k) (x ∷ xs) h = omega (arith, content_from-past m k xs (omega arith))

content_step : (m : Bool) (n : ℕ) (b : ℕ) (xs : List ℕ) → piece_len m (b ∷ xs) ≡ suc n → content_len m (b ∷ xs) ≡ 1 + content_from m n xs
unfolding content_from
content_step m n b xs e = rw (e, content_from)

pub content_len-stop : (m : Bool) (xs : List ℕ) → piece_len m xs ≡ 0 → content_len m xs ≡ 0
unfolding content_from
content_len-stop m [] e = refl
content_len-stop m (b ∷ xs) e = rw (e, content_from)

pub content_len-piece : (m : Bool) (n : ℕ) (xs : List ℕ) → piece_len m xs ≡ n → 0 < n → n ≤ length xs → content_len m xs ≡ n + content_len m (drop n xs)
content_len-piece m zero xs e some h = absurd (omega arith)
content_len-piece m (suc n) [] e some h = absurd (omega arith)
content_len-piece m (suc n) (b ∷ xs) e some h = omega (arith, content_step m n b xs e, content_from-inside m n xs (omega arith))

pub content_len-past : (m : Bool) (n : ℕ) (xs : List ℕ) → piece_len m xs ≡ n → length xs < n → content_len m xs ≡ length xs
unfolding content_from
content_len-past m n [] e h = refl
content_len-past m zero (b ∷ xs) e h = absurd (omega arith)
content_len-past m (suc n) (b ∷ xs) e h = omega (arith, content_step m n b xs e, content_from-past m n xs (omega arith))

pub content_len-nil : (m : Bool) → content_len m [] ≡ 0
unfolding content_from
content_len-nil m = refl

-- a byte without a special meaning is a piece
plain_piece : (m : Bool) (x : ℕ) (xs : List ℕ) → class_test Content x ≡ true → piece_len m (x ∷ xs) ≡ 1
plain_piece true x xs e = grind (arith, nat_tests)
plain_piece false x xs e = grind (arith, nat_tests)

content_run_step : (m b : Bool) (x : ℕ) (xs : List ℕ) → class_test Content x ≡ b
    → content_len m xs ≡ prefix_len (class_test Content) xs + content_len m (drop (prefix_len (class_test Content) xs) xs)
    → content_len m (x ∷ xs) ≡ prefix_len (class_test Content) (x ∷ xs) + content_len m (drop (prefix_len (class_test Content) (x ∷ xs)) (x ∷ xs))
content_run_step m true x xs e h =
    let piece = content_len-piece m 1 (x ∷ xs) (plain_piece m x xs e) (omega arith) (omega arith) in
    let more : 1 + prefix_len (class_test Content) xs ≡ suc (prefix_len (class_test Content) xs) = omega arith in
    rw (e, more) (omega (arith, piece, h))
content_run_step m false x xs e h = rw e (omega arith)

-- a run of such bytes is a sequence of pieces
pub content_len-run : (m : Bool) (xs : List ℕ) → content_len m xs ≡ prefix_len (class_test Content) xs + content_len m
    (drop (prefix_len (class_test Content) xs) xs)
content_len-run m [] = omega arith
content_len-run m (x ∷ xs) = content_run_step m (class_test Content x) x xs refl (content_len-run m xs)

-- if the content continues up to a position, it continues through the run of such bytes from there on
pub content_len-run_end : (m : Bool) (i end : ℕ) (xs : List ℕ) → content_len m xs ≡ i + content_len m (drop i xs) → end ≡ run_end (class_test Content) i xs
    → content_len m xs ≡ end + content_len m (drop end xs)
content_len-run_end m i end xs so_far e =
    let run = content_len-run m (drop i xs) in
    let same = ap (content_len m) (drop-drop (prefix_len (class_test Content) (drop i xs)) i xs) in
    rw e (omega (arith, so_far, run, same))

content_le_step : (m : Bool) (x : ℕ) (xs : List ℕ) (n : ℕ) → piece_len m (x ∷ xs) ≡ n → ((k : ℕ) → content_from m k xs ≤ length xs)
    → content_len m (x ∷ xs) ≤ suc (length xs)
content_le_step m x xs zero e more = omega (arith, content_len-stop m (x ∷ xs) e)
content_le_step m x xs (suc n) e more = omega (arith, content_step m n x xs e, more n)

content_stops_step : (m : Bool) (x : ℕ) (xs : List ℕ) (n : ℕ) → piece_len m (x ∷ xs) ≡ n
    → ((k : ℕ) → content_from m k xs < length xs → piece_len m (drop (content_from m k xs) xs) ≡ 0)
    → content_len m (x ∷ xs) < suc (length xs) → piece_len m (drop (content_len m (x ∷ xs)) (x ∷ xs)) ≡ 0
content_stops_step m x xs zero e more h = rw (content_len-stop m (x ∷ xs) e) e
content_stops_step m x xs (suc n) e more h =
    let step = content_step m n x xs e in
    let next : content_len m (x ∷ xs) ≡ suc (content_from m n xs) = omega arith in
    rw next (more n (omega arith))

content_from-le : (m : Bool) (inside : ℕ) (xs : List ℕ) → content_from m inside xs ≤ length xs
unfolding content_from
content_from-le m inside [] = omega arith
content_from-le m (suc k) (x ∷ xs) = omega (arith, content_from-le m k xs)
content_from-le m zero (x ∷ xs) = content_le_step m x xs (piece_len m (x ∷ xs)) refl (λ k. content_from-le m k xs)

pub content_len-le : (m : Bool) (xs : List ℕ) → content_len m xs ≤ length xs
content_len-le m xs = content_from-le m 0 xs

-- if the content ends before the text, no piece follows it
content_from-stops : (m : Bool) (inside : ℕ) (xs : List ℕ) → content_from m inside xs < length xs → piece_len m (drop (content_from m inside xs) xs) ≡ 0
unfolding content_from
content_from-stops m inside [] h = absurd (omega arith)
content_from-stops m (suc k) (x ∷ xs) h =
    let next : 1 + content_from m k xs ≡ suc (content_from m k xs) = omega arith in
    rw next (content_from-stops m k xs (omega arith))
content_from-stops m zero (x ∷ xs) h = content_stops_step m x xs (piece_len m (x ∷ xs)) refl (λ k. content_from-stops m k xs) h

pub content_len-stops : (m : Bool) (xs : List ℕ) → content_len m xs < length xs → piece_len m (drop (content_len m xs) xs) ≡ 0
content_len-stops m xs h = content_from-stops m 0 xs h
