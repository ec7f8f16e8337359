-- A diff applied to a text, line by line.
use Rattle.std.specs.Prelude.{ℕ, List, [], ◌∷◌, map, Option, Some, None, option_map, option_and_then, if◌then◌else◌}
use Rattle.std.specs.{List.concat, Str.bytes_eq}
use Rattle.nix_diff.specs.declared.diff.DiffLine.{DiffLine}
use Rattle.nix_diff.specs.declared.diff.DiffLine.TheVariants.{Common, Removed, Added}
use Rattle.nix_diff.specs.Diff.{lines_of}

-- the lines after a line, if they begin with it
abbrev pub after_line : List ℕ → List (List ℕ) → Option (List (List ℕ))
after_line line [] = None
after_line line (first ∷ rest) = if bytes_eq line first then Some rest else None

-- the lines after a diff is applied to lines, if it applies: a common line is the next one, and stays; a removed line is the next one, and is dropped; an
-- added line comes before the next one; and at the end no lines remain
abbrev pub applied_to : List DiffLine → List (List ℕ) → Option (List (List ℕ))
applied_to [] [] = Some []
applied_to [] (line ∷ rest) = None
applied_to (Common line ∷ diff) lines = option_map (λ made. line.now ∷ made) (option_and_then (applied_to diff) (after_line line.now lines))
applied_to (Removed line ∷ diff) lines = option_and_then (applied_to diff) (after_line line.now lines)
applied_to (Added line ∷ diff) lines = option_map (λ made. line.now ∷ made) (applied_to diff lines)

-- the text after a diff is applied to a text, if it applies
abbrev pub applied : List DiffLine → List ℕ → Option (List ℕ)
applied diff text = option_map concat (applied_to diff (lines_of text))

-- a line of a diff, read from the new text to the old one
abbrev pub reversed_line : DiffLine → DiffLine
reversed_line (Common line) = Common line
reversed_line (Removed line) = Added line
reversed_line (Added line) = Removed line

-- a diff, read from the new text to the old one
abbrev pub reversed : List DiffLine → List DiffLine
reversed diff = map reversed_line diff

-- the lines after a diff is applied to the first of these lines, if it applies, and the lines after those
abbrev pub applied_first : List DiffLine → List (List ℕ) → Option (List (List ℕ) × List (List ℕ))
applied_first [] lines = Some ([], lines)
applied_first (Common line ∷ diff) lines =
    option_map (λ made. (line.now ∷ made.0, made.1)) (option_and_then (applied_first diff) (after_line line.now lines))
applied_first (Removed line ∷ diff) lines = option_and_then (applied_first diff) (after_line line.now lines)
applied_first (Added line ∷ diff) lines = option_map (λ made. (line.now ∷ made.0, made.1)) (applied_first diff lines)
