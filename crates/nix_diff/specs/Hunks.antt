-- The hunks of a diff: runs of its lines, which contain all lines that are not common.
use Rattle.std.specs.Prelude.{◌≡◌, ◌<◌, ◌≤◌, ◌+◌, ◌-◌, ℕ, Bool, true, false, List, [], ◌∷◌, ◌++◌, length, take, drop, count_by, Option, Some, option_map, option_and_then}
use Rattle.std.specs.List.{list_all}
use Rattle.nix_diff.specs.declared.diff.DiffLine.{DiffLine}
use Rattle.nix_diff.specs.declared.diff.DiffLine.TheVariants.{Common, Removed, Added}
use Rattle.nix_diff.specs.declared.unified.{Counts.Counts, Hunk.Hunk}
use Rattle.nix_diff.specs.Applied.{applied_first}

-- whether a line of a diff belongs to both texts; to the old one; to the new one
abbrev pub is_common : DiffLine → Bool
is_common (Common line) = true
is_common (Removed line) = false
is_common (Added line) = false

abbrev pub is_old : DiffLine → Bool
is_old (Common line) = true
is_old (Removed line) = true
is_old (Added line) = false

abbrev pub is_new : DiffLine → Bool
is_new (Common line) = true
is_new (Removed line) = false
is_new (Added line) = true

-- all of these lines of a diff are common
abbrev pub AreCommon : List DiffLine → Type 0
AreCommon lines = list_all is_common lines ≡ true

-- the lines of a diff from one index up to another
abbrev pub lines_between : ℕ → ℕ → List DiffLine → List DiffLine
lines_between first end diff = take (end - first) (drop first diff)

-- the counts are the numbers of old lines and of new lines among lines of a diff
pub record AreCounts (lines : List DiffLine) (counts : Counts) : Type 0 where
  pub olds : counts.olds ≡ count_by is_old lines
  pub news : counts.news ≡ count_by is_new lines

-- the first hunk from an index on: all lines before it are common, and it records how many lines of each text precede it and are in it
pub record IsNextHunk (diff : List DiffLine) (index : ℕ) (hunk : Hunk) : Type 0 where
  pub starts : index ≤ hunk.first
  pub filled : hunk.first < hunk.end
  pub within : hunk.end ≤ length diff
  pub passed : AreCommon (lines_between index hunk.first diff)
  pub before : AreCounts (take hunk.first diff) hunk.before
  pub counts : AreCounts (lines_between hunk.first hunk.end diff) hunk.counts

-- the hunks of a diff from an index on, in order: all lines outside them are common
abbrev pub AreHunks : List DiffLine → ℕ → List Hunk → Type 0
AreHunks diff index [] = AreCommon (drop index diff)
AreHunks diff index (hunk ∷ hunks) = IsNextHunk diff index hunk × AreHunks diff hunk.end hunks

-- the lines of a hunk
abbrev pub hunk_lines : List DiffLine → Hunk → List DiffLine
hunk_lines diff hunk = lines_between hunk.first hunk.end diff

-- the lines after hunks are applied to those after the first `done` lines of a text, if they apply: the lines up to the one that a header names stay,
-- the hunk is applied to the next lines, and the other hunks to the rest
abbrev pub patched_from : List DiffLine → List Hunk → ℕ → List (List ℕ) → Option (List (List ℕ))
patched_from diff [] done lines = Some lines
patched_from diff (hunk ∷ hunks) done lines =
    option_map (λ made. take (hunk.before.olds - done) lines ++ made)
    (option_and_then (λ made. option_map (λ more. made.0 ++ more) (patched_from diff hunks (hunk.before.olds + hunk.counts.olds) made.1))
    (applied_first (hunk_lines diff hunk) (drop (hunk.before.olds - done) lines)))
