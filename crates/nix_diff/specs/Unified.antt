-- A diff as text, in the unified format.
use Rattle.std.specs.Prelude.{◌≡◌, ◌==◌, ◌+◌, ◌-◌, ℕ, List, [], ◌∷◌, ◌++◌, length, slice_index, Some, codes, decimal, if◌then◌else◌}
use Rattle.std.specs.{List.flat_map, Str.byte}
use Rattle.nix_diff.specs.declared.diff.DiffLine.{DiffLine}
use Rattle.nix_diff.specs.declared.diff.DiffLine.TheVariants.{Common, Removed, Added}
use Rattle.nix_diff.specs.declared.unified.Hunk.{Hunk}
use Rattle.nix_diff.specs.Diff.{line_feed, HasNoLineFeed, lines_of, IsDiff}
use Rattle.nix_diff.specs.Hunks.{AreHunks, hunk_lines, patched_from}

-- what follows a line that does not end with a line feed
abbrev pub no_line_feed : List ℕ
no_line_feed = codes "\n\\ No newline at end of file\n"

-- a line, followed by this if it does not end with a line feed
abbrev pub with_end : List ℕ → List ℕ
with_end line = if slice_index line (length line - 1) == line_feed then line else line ++ no_line_feed

-- a line of a diff, after a sign
abbrev pub line_text : DiffLine → List ℕ
line_text (Common line) = byte " " ∷ with_end line.now
line_text (Removed line) = byte "-" ∷ with_end line.now
line_text (Added line) = byte "+" ∷ with_end line.now

-- a range of lines in a text, given the number of lines before it: the number of its first line, and its length unless that is one; if it is empty, the number
-- of the line before it
abbrev pub range_text : ℕ → ℕ → List ℕ
range_text before count =
    if count == 0 then decimal before ++ codes ",0"
    else if count == 1 then decimal (before + 1)
    else decimal (before + 1) ++ codes "," ++ decimal count

-- the header of a hunk: its lines in the old text and in the new one
abbrev pub header_text : Hunk → List ℕ
header_text hunk =
    codes "@@ -" ++ range_text hunk.before.olds hunk.counts.olds ++ codes " +" ++ range_text hunk.before.news hunk.counts.news ++ codes " @@\n"

-- a hunk of a diff
abbrev pub hunk_text : List DiffLine → Hunk → List ℕ
hunk_text diff hunk = header_text hunk ++ flat_map line_text (hunk_lines diff hunk)

-- the two header lines, with the names of the texts
pub record AreHeaderLines (text : List ℕ) : Type 0 where
  pub old_name : List ℕ
  pub new_name : List ℕ
  pub old_is_line : HasNoLineFeed old_name
  pub new_is_line : HasNoLineFeed new_name
  pub are : text ≡ codes "--- " ++ (old_name ++ (codes "\n+++ " ++ (new_name ++ codes "\n")))

-- what precedes some hunks: the two header lines, or nothing if there are no hunks
abbrev pub AreHeaderLinesOf : List Hunk → List ℕ → Type 0
AreHeaderLinesOf [] text = text ≡ []
AreHeaderLinesOf (hunk ∷ hunks) text = AreHeaderLines text

-- a text contains the hunks of a diff of two texts, after two header lines; applied where their headers say, they turn the lines of the old text into those
-- of the new one
pub record IsUnified (old new text : List ℕ) : Type 0 where
  pub diff : List DiffLine
  pub is_diff : IsDiff old new diff
  pub hunks : List Hunk
  pub are_hunks : AreHunks diff 0 hunks
  pub patches : patched_from diff hunks 0 (lines_of old) ≡ Some (lines_of new)
  pub header : List ℕ
  pub is_header : AreHeaderLinesOf hunks header
  pub whole : text ≡ header ++ flat_map (hunk_text diff) hunks
