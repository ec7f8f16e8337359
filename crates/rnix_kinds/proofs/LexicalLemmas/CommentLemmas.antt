-- The inside of a comment.
use Rattle.std.proofs.Common.{◌≡◌, ℕ, suc, ◌+◌, ◌<◌, Bool, true, false, ◌==◌, List, [], ◌∷◌, length, drop, get_or, refl, ap, get_or-drop, length-drop, arith}
use Rattle.std.{proofs.lemmas.{Bool.Decides.nat_tests, List.{drop-drop, Sums.prefix_len_stops}}, specs.List.prefix_len}
use Rattle.rnix_kinds.specs.{declared.tokenizer.text.Class.TheVariants.Comment, Lexical.{Classes.class_test, Texts.{before_pair, run_end}}}
use Rattle.rnix_kinds.proofs.LexicalLemmas.WordsLemmas.{before_pair-turn}

-- the number of bytes before the end of a comment
abbrev end_in : List ℕ → ℕ
end_in = before_pair 42 47

-- one more byte in front
run_step : (x : ℕ) (xs : List ℕ) (b : Bool) → class_test Comment x ≡ b
    → end_in xs ≡ prefix_len (class_test Comment) xs + end_in (drop (prefix_len (class_test Comment) xs) xs)
    → end_in (x ∷ xs) ≡ prefix_len (class_test Comment) (x ∷ xs) + end_in (drop (prefix_len (class_test Comment) (x ∷ xs)) (x ∷ xs))
unfolding before_pair
run_step x xs true e h =
    let more : 1 + prefix_len (class_test Comment) xs ≡ suc (prefix_len (class_test Comment) xs) = omega arith in
    let other : (x == 42) ≡ false = grind (arith, nat_tests) in
    rw (e, more, other) (omega (arith, h))
run_step x xs false e h = rw e (omega arith)

-- bytes other than `*` do not end a comment
comment_run : (xs : List ℕ) → end_in xs ≡ prefix_len (class_test Comment) xs + end_in (drop (prefix_len (class_test Comment) xs) xs)
comment_run [] = omega arith
comment_run (x ∷ xs) = run_step x xs (class_test Comment x) refl (comment_run xs)

-- if a comment continues up to a position, it continues through the run of such bytes from there on
pub comment_run_end : (i end : ℕ) (xs : List ℕ) → before_pair 42 47 xs ≡ i + before_pair 42 47 (drop i xs)
    → end ≡ run_end (class_test Comment) i xs → before_pair 42 47 xs ≡ end + before_pair 42 47 (drop end xs)
comment_run_end i end xs so_far e =
    let run = comment_run (drop i xs) in
    let same = ap end_in (drop-drop (prefix_len (class_test Comment) (drop i xs)) i xs) in
    rw e (omega (arith, so_far, run, same))

-- a `*` follows that run, or the text ends
pub star_follows : (i end : ℕ) (xs : List ℕ) → end ≡ run_end (class_test Comment) i xs → end < length xs → get_or xs end 0 ≡ 42
star_follows i end xs e h =
    let n = prefix_len (class_test Comment) (drop i xs) in
    let stop = prefix_len_stops (class_test Comment) (drop i xs) 0 (omega (arith, e, length-drop i xs)) in
    let at : get_or (drop i xs) n 0 ≡ get_or xs (i + n) 0 = get_or-drop i xs n 0 in
    rw e (grind (arith, nat_tests, stop, at))

-- a `*` before another byte than `/` does not end the comment
pub star_passed : (i : ℕ) (xs : List ℕ) (next : ℕ) → i < length xs → get_or xs (i + 1) 0 ≡ next → ((next ≡ 47) → ⊥)
    → before_pair 42 47 xs ≡ i + before_pair 42 47 (drop i xs) → before_pair 42 47 xs ≡ (i + 1) + before_pair 42 47 (drop (i + 1) xs)
star_passed i xs next h e other so_far =
    let turn = before_pair-turn 42 47 xs i h in
    grind (arith, nat_tests, turn, e, other, so_far)

-- `*/` ends the comment
pub pair_ends : (i : ℕ) (xs : List ℕ) → i < length xs → get_or xs i 0 ≡ 42 → get_or xs (i + 1) 0 ≡ 47 → before_pair 42 47 (drop i xs) ≡ 0
pair_ends i xs h star slash =
    let turn = before_pair-turn 42 47 xs i h in
    grind (arith, nat_tests, turn, star, slash)
