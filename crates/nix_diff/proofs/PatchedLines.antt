-- The hunks of a diff turn the lines of the old text into those of the new one.
use Rattle.std.proofs.Common.{◌≡◌, ℕ, ◌+◌, ◌-◌, ◌≤◌, List, [], ◌∷◌, ◌++◌, length, take, drop, Some, refl, ap, sym, ◌∙◌, arith}
use Rattle.std.proofs.Math.Seq.{take-append_seam, drop-append_seam}
use Rattle.std.proofs.lemmas.{List.{take-append-drop, drop-drop, length-append}, List.Concat.{flat_map-append}}
use Rattle.std.specs.{Prelude.{option_map, option_and_then}}
use Rattle.nix_diff.specs.declared.diff.DiffLine.{DiffLine, TheVariants.{Common, Removed, Added}}
use Rattle.nix_diff.specs.declared.unified.{Hunk.Hunk}
use Rattle.nix_diff.specs.Diff.{old_line, new_line, old_lines, new_lines}
use Rattle.nix_diff.specs.Applied.{applied_first}
use Rattle.nix_diff.specs.Hunks.{AreCommon, lines_between, AreHunks, hunk_lines, patched_from}
use Rattle.nix_diff.proofs.AppliedDiffs.{after_itself}
use Rattle.nix_diff.proofs.HunkLemmas.{olds_counted, lines_split}

-- common lines have the same old and new lines
common_alike : (lines : List DiffLine) → AreCommon lines → old_lines lines ≡ new_lines lines
common_alike [] h = refl
common_alike (Common line ∷ lines) h = ap (λ ls. line.now ∷ ls) (common_alike lines h)
common_alike (Removed line ∷ lines) h = cc
common_alike (Added line ∷ lines) h = cc

-- applying lines of a diff to their old lines makes their new lines, whatever follows
makes_first : (diff : List DiffLine) (rest : List (List ℕ)) → applied_first diff (old_lines diff ++ rest) ≡ Some (new_lines diff, rest)
makes_first [] rest = refl
makes_first (Common line ∷ diff) rest =
    ap (λ o. option_map (λ made. (line.now ∷ made.0, made.1)) (option_and_then (applied_first diff) o)) (after_itself line.now (old_lines diff ++ rest))
    ∙ ap (option_map (λ made. (line.now ∷ made.0, made.1))) (makes_first diff rest)
makes_first (Removed line ∷ diff) rest =
    ap (option_and_then (applied_first diff)) (after_itself line.now (old_lines diff ++ rest)) ∙ makes_first diff rest
makes_first (Added line ∷ diff) rest = ap (option_map (λ made. (line.now ∷ made.0, made.1))) (makes_first diff rest)

-- the lines of a diff from an index on are those up to another index, and the rest
drop_split : (diff : List DiffLine) (first end : ℕ) → first ≤ end → drop first diff ≡ lines_between first end diff ++ drop end diff
drop_split diff first end h =
    sym (take-append-drop (end - first) (drop first diff))
    ∙ ap (λ ls. lines_between first end diff ++ ls)
    (drop-drop (end - first) first diff ∙ ap (λ n. drop n diff) {x = first + (end - first)} {y = end} (omega arith))

-- the number of old lines up to an index
olds_split : (diff : List DiffLine) (first end : ℕ) → first ≤ end
    → length (old_lines (take end diff)) ≡ length (old_lines (take first diff)) + length (old_lines (lines_between first end diff))
olds_split diff first end h =
    ap (λ d. length (old_lines d)) (lines_split diff first end h)
    ∙ ap length (flat_map-append old_line (take first diff) (lines_between first end diff))
    ∙ length-append (old_lines (take first diff)) (old_lines (lines_between first end diff))

-- the lines of a diff from an index on, as old lines and as new ones
olds_parted : (diff : List DiffLine) (first end : ℕ) → first ≤ end
    → old_lines (drop first diff) ≡ old_lines (lines_between first end diff) ++ old_lines (drop end diff)
olds_parted diff first end h =
    ap old_lines (drop_split diff first end h) ∙ flat_map-append old_line (lines_between first end diff) (drop end diff)

news_parted : (diff : List DiffLine) (first end : ℕ) → first ≤ end
    → new_lines (drop first diff) ≡ new_lines (lines_between first end diff) ++ new_lines (drop end diff)
news_parted diff first end h =
    ap new_lines (drop_split diff first end h) ∙ flat_map-append new_line (lines_between first end diff) (drop end diff)

-- a hunk after lines that stay: applying it to the lines from there on
one_patched : (diff : List DiffLine) (hunk : Hunk) (hunks : List Hunk) (done : ℕ) (kept rest made : List (List ℕ))
    → hunk.before.olds - done ≡ length kept → patched_from diff hunks (hunk.before.olds + hunk.counts.olds) rest ≡ Some made
    → patched_from diff (hunk ∷ hunks) done (kept ++ (old_lines (hunk_lines diff hunk) ++ rest)) ≡ Some (kept ++ (new_lines (hunk_lines diff hunk) ++ made))
one_patched diff hunk hunks done kept rest made gap further =
    let lines : List (List ℕ) = old_lines (hunk_lines diff hunk) ++ rest in
    let front : take (hunk.before.olds - done) (kept ++ lines) ≡ kept = ap (λ n. take n (kept ++ lines)) gap ∙ take-append_seam kept lines in
    let back : drop (hunk.before.olds - done) (kept ++ lines) ≡ lines = ap (λ n. drop n (kept ++ lines)) gap ∙ drop-append_seam kept lines in
    let step = λ (m : List (List ℕ) × List (List ℕ)).
    option_map (λ more. m.0 ++ more) (patched_from diff hunks (hunk.before.olds + hunk.counts.olds) m.1) in
    ap (λ k. option_map (λ ls. k ++ ls) (option_and_then step (applied_first (hunk_lines diff hunk) (drop (hunk.before.olds - done) (kept ++ lines))))) front
    ∙ ap (λ b. option_map (λ ls. kept ++ ls) (option_and_then step (applied_first (hunk_lines diff hunk) b))) back
    ∙ ap (λ o. option_map (λ ls. kept ++ ls) (option_and_then step o)) (makes_first (hunk_lines diff hunk) rest)
    ∙ ap (λ o. option_map (λ ls. kept ++ ls) (option_map (λ more. new_lines (hunk_lines diff hunk) ++ more) o)) further

-- the hunks of a diff from an index on
patched_rest : (diff : List DiffLine) (index : ℕ) (hunks : List Hunk) → AreHunks diff index hunks
    → patched_from diff hunks (length (old_lines (take index diff))) (old_lines (drop index diff)) ≡ Some (new_lines (drop index diff))
patched_rest diff index [] h = ap Some (common_alike (drop index diff) h)
patched_rest diff index (hunk ∷ hunks) h =
    let done : ℕ = length (old_lines (take index diff)) in
    let kept : List DiffLine = lines_between index hunk.first diff in
    let filled : hunk.first ≤ hunk.end = omega (arith, h.0.filled) in
    let gap : hunk.before.olds - done ≡ length (old_lines kept) =
    omega (arith, h.0.before.olds, olds_counted (take hunk.first diff), olds_split diff index hunk.first h.0.starts) in
    let next : length (old_lines (take hunk.end diff)) ≡ hunk.before.olds + hunk.counts.olds =
    omega (
      arith,
      h.0.before.olds,
      olds_counted (take hunk.first diff),
      h.0.counts.olds,
      olds_counted (hunk_lines diff hunk),
      olds_split diff hunk.first hunk.end filled,
    ) in
    let further : patched_from diff hunks (hunk.before.olds + hunk.counts.olds) (old_lines (drop hunk.end diff)) ≡ Some (new_lines (drop hunk.end diff)) =
    ap (λ n. patched_from diff hunks n (old_lines (drop hunk.end diff))) (sym next) ∙ patched_rest diff hunk.end hunks h.1 in
    ap (patched_from diff (hunk ∷ hunks) done)
    (olds_parted diff index hunk.first h.0.starts ∙ ap (λ ls. old_lines kept ++ ls) (olds_parted diff hunk.first hunk.end filled))
    ∙ one_patched diff hunk hunks done (old_lines kept) (old_lines (drop hunk.end diff)) (new_lines (drop hunk.end diff)) gap further
    ∙ ap Some (ap (λ ls. ls ++ (new_lines (hunk_lines diff hunk) ++ new_lines (drop hunk.end diff))) (common_alike kept h.0.passed)
    ∙ sym (news_parted diff index hunk.first h.0.starts ∙ ap (λ ls. new_lines kept ++ ls) (news_parted diff hunk.first hunk.end filled)))

-- applying the hunks of a diff turns its old lines into its new ones
pub hunks_patch : (diff : List DiffLine) (hunks : List Hunk) (olds news : List (List ℕ)) → AreHunks diff 0 hunks → old_lines diff ≡ olds
    → new_lines diff ≡ news → patched_from diff hunks 0 olds ≡ Some news
hunks_patch diff hunks olds news h old new = ap (patched_from diff hunks 0) (sym old) ∙ patched_rest diff 0 hunks h ∙ ap Some new
