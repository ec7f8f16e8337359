-- The difference of two texts, line by line.
use Rattle.std.specs.Prelude.{◌≡◌, ◌≢◌, ◌<◌, ◌==◌, ℕ, List, [], ◌∷◌, ◌++◌, length, get_or, map, drop, if◌then◌else◌}
use Rattle.std.specs.List.{flat_map}
use Rattle.nix_diff.specs.declared.diff.DiffLine.{DiffLine}
use Rattle.nix_diff.specs.declared.diff.DiffLine.TheVariants.{Common, Removed, Added}
use Rattle.nix_diff.specs.declared.diff.Line.{Line}

-- the byte that ends a line
abbrev pub line_feed : ℕ
line_feed = 10

-- the lines of a text that begins with a byte, given the lines of the text after it
abbrev pub lines_with : ℕ → List (List ℕ) → List (List ℕ)
lines_with b [] = (b ∷ []) ∷ []
lines_with b (line ∷ lines) = if b == line_feed then (b ∷ []) ∷ line ∷ lines else (b ∷ line) ∷ lines

-- a text has no line feed
abbrev pub HasNoLineFeed : List ℕ → Type 0
HasNoLineFeed bs = (i : ℕ) → i < length bs → get_or bs i 0 ≢ line_feed

-- the lines of a text, each with the line feed that ends it
abbrev pub lines_of : List ℕ → List (List ℕ)
lines_of [] = []
lines_of (b ∷ bs) = lines_with b (lines_of bs)

-- the line of the old text in a line of a diff, if there is one
abbrev pub old_line : DiffLine → List (List ℕ)
old_line (Common line) = line.now ∷ []
old_line (Removed line) = line.now ∷ []
old_line (Added line) = []

-- the line of the new text in a line of a diff, if there is one
abbrev pub new_line : DiffLine → List (List ℕ)
new_line (Common line) = line.now ∷ []
new_line (Removed line) = []
new_line (Added line) = line.now ∷ []

-- the lines of the old text in a diff: the common and the removed ones
abbrev pub old_lines : List DiffLine → List (List ℕ)
old_lines diff = flat_map old_line diff

-- the lines of the new text in a diff: the common and the added ones
abbrev pub new_lines : List DiffLine → List (List ℕ)
new_lines diff = flat_map new_line diff

-- a diff of two texts: the common and the removed lines are the old text's, the common and the added ones the new text's
pub record IsDiff (old new : List ℕ) (diff : List DiffLine) : Type 0 where
  pub olds : old_lines diff ≡ lines_of old
  pub news : new_lines diff ≡ lines_of new

-- the texts of some lines
abbrev pub texts_of : List Line → List (List ℕ)
texts_of lines = map (λ line. line.text.now) lines

-- the first `count` of these lines of the new text are added to a diff
abbrev pub AddsLines : List DiffLine → List DiffLine → List Line → ℕ → Type 0
AddsLines old new lines count = new_lines new ++ texts_of (drop count lines) ≡ new_lines old ++ texts_of lines
