-- The definitions for certain texts, by computation.
use Rattle.std.proofs.Common.{◌≡◌, ℕ, List, [], ◌∷◌, ◌++◌, Some, refl, ap, ◌∙◌, arith}
use Rattle.std.proofs.lemmas.Fmt.{decimal_digit}
use Rattle.std.specs.Prelude.{None, codes, decimal}
use denote.Ref.{Bor}
use Rattle.nix_diff.specs.declared.diff.DiffLine.TheVariants.{Removed, Added}
use Rattle.nix_diff.specs.Diff.{lines_of}
use Rattle.nix_diff.specs.Applied.{applied_to, reversed}
use Rattle.nix_diff.specs.Unified.{with_end, range_text}

-- an empty text has no lines
no_lines : lines_of [] ≡ []
no_lines = refl

-- `a`, a line feed, and `b`: the last line has no line feed
last_line_open : lines_of (97 ∷ 10 ∷ 98 ∷ []) ≡ (97 ∷ 10 ∷ []) ∷ (98 ∷ []) ∷ []
last_line_open = refl

-- nothing follows the line feed at the end
last_line_ended : lines_of (97 ∷ 10 ∷ []) ≡ (97 ∷ 10 ∷ []) ∷ []
last_line_ended = refl

-- line feeds alone are empty lines
empty_lines : lines_of (10 ∷ 10 ∷ 97 ∷ []) ≡ (10 ∷ []) ∷ (10 ∷ []) ∷ (97 ∷ []) ∷ []
empty_lines = refl

-- a diff with an added line turns an empty list of lines into this line; reversed, it removes the line
added_comes : (line : Bor (List ℕ)) → applied_to (Added line ∷ []) [] ≡ Some (line.now ∷ [])
added_comes line = refl

added_goes : (line : Bor (List ℕ)) → reversed (Added line ∷ []) ≡ Removed line ∷ []
added_goes line = refl

-- a line that does not exist cannot be removed, and no line may remain
removed_missing : (line : Bor (List ℕ)) → applied_to (Removed line ∷ []) [] ≡ None
removed_missing line = refl

line_remaining : (line : List ℕ) → applied_to [] (line ∷ []) ≡ None
line_remaining line = refl

-- a line without a line feed
open_line : with_end (codes "a") ≡ codes "a\n\\ No newline at end of file\n"
open_line = refl

ended_line : with_end (codes "a\n") ≡ codes "a\n"
ended_line = refl

-- ranges in a header: no lines after the fourth, the fifth, and the fifth with two more
no_range : range_text 4 0 ≡ codes "4,0"
no_range = ap (λ d. d ++ codes ",0") (decimal_digit 4 (omega arith))

single_range : range_text 4 1 ≡ codes "5"
single_range = decimal_digit 5 (omega arith)

wide_range : range_text 4 3 ≡ codes "5,3"
wide_range = ap (λ d. d ++ codes "," ++ decimal 3) (decimal_digit 5 (omega arith)) ∙ ap (λ d. codes "5," ++ d) (decimal_digit 3 (omega arith))
