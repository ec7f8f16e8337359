-- Common lines of a diff, and how many lines of each text are among its lines.
use Rattle.std.proofs.Common.{◌≡◌, ℕ, zero, suc, ◌+◌, ◌-◌, ◌<◌, ◌≤◌, List, [], ◌∷◌, ◌++◌, length, take, drop, get_or, refl, ap, subst, ◌∙◌, arith}
use Rattle.std.proofs.Math.Seq.{take-add}
use Rattle.std.proofs.lemmas.{List.{take_all, length-take, length-drop}, List.Recursion.{is_count_by}, List.Sums.{count_by-le-length, sum_by-append}}
use Rattle.std.specs.{Prelude.{Bool, cond, count_by}, List.{prefix_len}}
use Rattle.nix_diff.specs.declared.diff.DiffLine.{DiffLine, TheVariants.{Common, Removed, Added}}
use Rattle.nix_diff.specs.declared.unified.{Counts.Counts, Hunk.Hunk}
use Rattle.nix_diff.specs.Diff.{old_lines, new_lines}
use Rattle.nix_diff.specs.Hunks.{is_common, is_old, is_new, AreCommon, lines_between, AreCounts, IsNextHunk, AreHunks}

-- one more line, among the old lines and among the new ones
old_step : (line : DiffLine) (diff : List DiffLine)
    → length (old_lines (line ∷ diff)) ≡ cond (is_old line) (1 + length (old_lines diff)) (length (old_lines diff))
old_step (Common line) diff = omega arith
old_step (Removed line) diff = omega arith
old_step (Added line) diff = refl

new_step : (line : DiffLine) (diff : List DiffLine)
    → length (new_lines (line ∷ diff)) ≡ cond (is_new line) (1 + length (new_lines diff)) (length (new_lines diff))
new_step (Common line) diff = omega arith
new_step (Removed line) diff = refl
new_step (Added line) diff = omega arith

-- the number of old lines, and the number of new ones
pub olds_counted : (diff : List DiffLine) → length (old_lines diff) ≡ count_by is_old diff
olds_counted diff = is_count_by (λ d. length (old_lines d)) is_old refl old_step diff

-- the lines up to an index are those up to an earlier one and those between the two
pub lines_split : (diff : List DiffLine) (first end : ℕ) → first ≤ end → take end diff ≡ take first diff ++ lines_between first end diff
lines_split diff first end h = ap (λ n. take n diff) {x = end} {y = first + (end - first)} (omega arith) ∙ take-add first (end - first) diff

-- the number of lines among them that pass a test
pub passes_split : (p : DiffLine → Bool) (diff : List DiffLine) (first end : ℕ) → first ≤ end
    → count_by p (take end diff) ≡ count_by p (take first diff) + count_by p (lines_between first end diff)
passes_split p diff first end h =
    ap (count_by p) (lines_split diff first end h) ∙ sum_by-append (λ x. cond (p x) 1 0) (take first diff) (lines_between first end diff)

-- the counts of the lines up to an index and of those after them add up to the counts of all
pub counts_summed : (diff : List DiffLine) (first end : ℕ) (before more sum : Counts) → first ≤ end → AreCounts (take first diff) before
    → AreCounts (lines_between first end diff) more → sum.olds ≡ before.olds + more.olds → sum.news ≡ before.news + more.news
    → AreCounts (take end diff) sum
counts_summed diff first end before more sum h a b olds news = record {
  olds = omega (arith, olds, a.olds, b.olds, passes_split is_old diff first end h);
  news = omega (arith, news, a.news, b.news, passes_split is_new diff first end h);
}

-- the counts of the first lines are at most the number of these lines
pub counts_within : (diff : List DiffLine) (end : ℕ) (counts : Counts) → AreCounts (take end diff) counts → (counts.olds ≤ end) × (counts.news ≤ end)
counts_within diff end counts h = (
  omega (arith, h.olds, count_by-le-length is_old (take end diff), length-take end diff),
  omega (arith, h.news, count_by-le-length is_new (take end diff), length-take end diff),
)

-- the first lines are common up to the end of the common lines at the beginning
pub front_common : (count : ℕ) (lines : List DiffLine) → count ≤ prefix_len is_common lines → AreCommon (take count lines)
front_common zero lines h = refl
front_common (suc count) [] h = refl
front_common (suc count) (Common line ∷ lines) h = front_common count lines (omega (arith, h))
front_common (suc count) (Removed line ∷ lines) h = absurd (omega (arith, h))
front_common (suc count) (Added line ∷ lines) h = absurd (omega (arith, h))

-- if the common lines at the beginning are all lines, all lines are common
pub all_common : (lines : List DiffLine) → length lines ≤ prefix_len is_common lines → AreCommon lines
all_common lines h = subst AreCommon (take_all (length lines) lines (omega arith)) (front_common (length lines) lines h)

-- a hunk around the first change from an index on
pub hunk_found : (diff : List DiffLine) (index passed : ℕ) (before more : Counts) (hunk : Hunk) → AreCounts (take index diff) before
    → passed ≡ prefix_len is_common (drop index diff) → index ≤ hunk.first → hunk.first ≤ index + passed → hunk.first < hunk.end → hunk.end ≤ length diff
    → AreCounts (lines_between index hunk.first diff) more → hunk.before.olds ≡ before.olds + more.olds → hunk.before.news ≡ before.news + more.news
    → AreCounts (lines_between hunk.first hunk.end diff) hunk.counts → IsNextHunk diff index hunk
hunk_found diff index passed before more hunk a is starts near filled within b olds news counts = record {
  starts = starts;
  filled = filled;
  within = within;
  passed = front_common (hunk.first - index) (drop index diff) (omega (arith, is));
  before = counts_summed diff index hunk.first before more hunk.before starts a b olds news;
  counts = counts;
}

-- if all lines from an index on are common, no hunk follows
pub none_found : (diff : List DiffLine) (index passed : ℕ) → passed ≡ prefix_len is_common (drop index diff) → index + passed ≡ length diff
    → AreCommon (drop index diff)
none_found diff index passed is all = all_common (drop index diff) (omega (arith, is, length-drop index diff))

-- each hunk of a diff is the next one from some index on
pub one_hunk : (diff : List DiffLine) (index : ℕ) (hunks : List Hunk) (i : ℕ) (d : Hunk) → AreHunks diff index hunks → i < length hunks
    → (from : ℕ) × IsNextHunk diff from (get_or hunks i d)
one_hunk diff index [] i d h less = absurd (omega (arith, less))
one_hunk diff index (hunk ∷ hunks) zero d h less = (index, h.0)
one_hunk diff index (hunk ∷ hunks) (suc i) d h less = one_hunk diff hunk.end hunks i d h.1 (omega (arith, less))
