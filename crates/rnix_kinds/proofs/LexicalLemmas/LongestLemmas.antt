-- The functions that return lengths return the longest ones.
use Rattle.std.proofs.Common.{◌≡◌, ℕ, zero, suc, ◌+◌, ◌<◌, ◌≤◌, Bool, true, false, List, [], ◌∷◌, length, take, drop, refl, sym, subst, inl, inr, arith}
use Rattle.std.{proofs.{Common.length-drop, lemmas.{Bool.{cases_lt, and_parts}, List.Sums.prefix_len-le-length}}, specs.List.{list_all, prefix_len}}
use Rattle.rnix_kinds.specs.Lexical.{Strings.{piece_len, content_len}, Texts.before_pair, Longest.{IsLongest, IsRun, IsRow, empty, piece, IsFirstPair}}
use Rattle.rnix_kinds.proofs.LexicalLemmas.{StringsLemmas.{content_len-piece, content_len-stop, content_len-past}, WordsLemmas.{before_pair-le, before_pair-found}}
use Rattle.rnix_kinds.proofs.LexicalLemmas.WordsLemmas.{before_pair-begins, before_pair-first, within_from_byte}

run_step : (p : ℕ → Bool) (x : ℕ) (xs : List ℕ) (b : Bool) → p x ≡ b → list_all p (take (prefix_len p xs) xs) ≡ true
    → list_all p (take (prefix_len p (x ∷ xs)) (x ∷ xs)) ≡ true
run_step p x xs true e h =
    let more : 1 + prefix_len p xs ≡ suc (prefix_len p xs) = omega arith in
    rw (e, more, e) h
run_step p x xs false e h = rw e refl

run_passes : (p : ℕ → Bool) (xs : List ℕ) → list_all p (take (prefix_len p xs) xs) ≡ true
run_passes p [] = refl
run_passes p (x ∷ xs) = run_step p x xs (p x) refl (run_passes p xs)

run_longest : (p : ℕ → Bool) (xs : List ℕ) (m : ℕ) → IsRun p xs m → m ≤ prefix_len p xs
run_longest p xs zero run = omega arith
run_longest p [] (suc m) run = absurd (omega (arith, run.0))
run_longest p (x ∷ xs) (suc m) run =
    let parts = and_parts (p x) (list_all p (take m xs)) run.1 in
    let more = run_longest p xs m (omega (arith, run.0), parts.1) in
    rw (parts.0) (omega arith)

-- `prefix_len` returns the length of the longest run
pub prefix_len-IsLongest : (p : ℕ → Bool) (xs : List ℕ) → IsLongest (IsRun p xs) (prefix_len p xs)
prefix_len-IsLongest p xs = record { member = (prefix_len-le-length p xs, run_passes p xs); longest = run_longest p xs }

row_longest : (m : Bool) (n : ℕ) (text : List ℕ) → IsRow m n text → n ≤ content_len m text
row_longest m _ _ (empty text) = omega arith
row_longest m _ _ (piece n text some fits more) =
    omega (arith, content_len-piece m (piece_len m text) text refl some fits, row_longest m n (drop (piece_len m text) text) more)

row_case : (m : Bool) (fuel : ℕ) (text : List ℕ) (n : ℕ) → piece_len m text ≡ n → length text ≤ suc fuel → content_len m text < length text
    → ((rest : List ℕ) → length rest ≤ fuel → content_len m rest < length rest → IsRow m (content_len m rest) rest) → IsRow m (content_len m text) text
row_case m fuel text zero e h before more = rw (content_len-stop m text e) (empty text)
row_case m fuel text (suc n) e h before more =
    let some : 0 < piece_len m text = omega arith in
    elim (cases_lt (length text) (piece_len m text)) [
      | inl past ↦ absurd (omega (arith, content_len-past m (piece_len m text) text refl past))
      | inr not_past ↦ (
          let fits : piece_len m text ≤ length text = omega arith in
          let step = content_len-piece m (piece_len m text) text refl some fits in
          let dropped = length-drop (piece_len m text) text in
          subst (λ k. IsRow m k text) (sym step) (piece (content_len m (drop (piece_len m text) text)) text some fits
          (more (drop (piece_len m text) text) (omega arith) (omega arith))))
    ]

row_member : (m : Bool) (fuel : ℕ) (text : List ℕ) → length text ≤ fuel → content_len m text < length text → IsRow m (content_len m text) text
row_member m zero text h before = absurd (omega arith)
row_member m (suc fuel) text h before = row_case m fuel text (piece_len m text) refl h before (row_member m fuel)

-- the content is the longest sequence of pieces, if the text does not end first
pub content_len-IsLongest : (m : Bool) (text : List ℕ) → content_len m text < length text → IsLongest (λ n. IsRow m n text) (content_len m text)
content_len-IsLongest m text before = record { member = row_member m (length text) text (omega arith) before; longest = λ n fits. row_longest m n text fits }

-- `before_pair` returns the position of the first pair
pub before_pair-IsFirstPair : (a b : ℕ) (text : List ℕ) → 0 < b → IsFirstPair a b text (before_pair a b text)
before_pair-IsFirstPair a b text some = record {
  within = before_pair-le a b text;
  found = λ h. let last = before_pair-found a b text h in
      (within_from_byte text (before_pair a b text + 1) (omega arith), before_pair-begins a b text h, last);
  first = λ k pair. before_pair-first a b text k pair.1 pair.2 (omega (arith, pair.0));
}
