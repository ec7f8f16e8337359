-- A diff of two texts turns each of them into the other.
use Rattle.std.proofs.Common.{◌≡◌, ℕ, ◌==◌, List, [], ◌∷◌, true, false, Some, refl, ap, sym, ◌∙◌}
use Rattle.std.proofs.lemmas.Slice.Eq.{bytes_eq-Decides}
use Rattle.std.specs.{Prelude.{None, option_map, option_and_then, if◌then◌else◌}, List.concat}
use Rattle.nix_diff.specs.declared.diff.DiffLine.{DiffLine, TheVariants.{Common, Removed, Added}}
use Rattle.nix_diff.specs.Diff.{line_feed, lines_with, lines_of, old_lines, new_lines, IsDiff}
use Rattle.nix_diff.specs.Applied.{after_line, applied_to, applied, reversed}

-- removing a line from lines that begin with it
pub after_itself : (line : List ℕ) (rest : List (List ℕ)) → after_line line (line ∷ rest) ≡ Some rest
after_itself line rest = ap (λ t. if t then Some rest else None) ((bytes_eq-Decides line line).1 refl)

-- applying a diff to the lines of the old text makes those of the new text
makes_new : (diff : List DiffLine) → applied_to diff (old_lines diff) ≡ Some (new_lines diff)
makes_new [] = refl
makes_new (Common line ∷ diff) =
    ap (λ o. option_map (λ made. line.now ∷ made) (option_and_then (applied_to diff) o)) (after_itself line.now (old_lines diff))
    ∙ ap (option_map (λ made. line.now ∷ made)) (makes_new diff)
makes_new (Removed line ∷ diff) = ap (option_and_then (applied_to diff)) (after_itself line.now (old_lines diff)) ∙ makes_new diff
makes_new (Added line ∷ diff) = ap (option_map (λ made. line.now ∷ made)) (makes_new diff)

-- the concatenated lines of a text are the text
joined_with : (b : ℕ) (lines : List (List ℕ)) → concat (lines_with b lines) ≡ b ∷ concat lines
joined_with b [] = refl
joined_with b (line ∷ lines) =
    elim (b == line_feed) as (λ t. concat (if t then (b ∷ []) ∷ line ∷ lines else (b ∷ line) ∷ lines) ≡ b ∷ concat (line ∷ lines))
    [ true ↦ refl | false ↦ refl ]

lines_joined : (text : List ℕ) → concat (lines_of text) ≡ text
lines_joined [] = refl
lines_joined (b ∷ bs) = joined_with b (lines_of bs) ∙ ap (λ t. b ∷ t) (lines_joined bs)

-- a diff turns the old text into the new one
pub diff_applies : (old new : List ℕ) (diff : List DiffLine) → IsDiff old new diff → applied diff old ≡ Some new
diff_applies old new diff h =
    ap (λ ls. option_map concat (applied_to diff ls)) (sym h.olds) ∙ ap (option_map concat) (makes_new diff ∙ ap Some h.news)
    ∙ ap Some (lines_joined new)

-- the old lines of a reversed diff are the new ones of the diff, and vice versa
olds_reversed : (diff : List DiffLine) → old_lines (reversed diff) ≡ new_lines diff
olds_reversed [] = refl
olds_reversed (Common line ∷ diff) = ap (λ ls. line.now ∷ ls) (olds_reversed diff)
olds_reversed (Removed line ∷ diff) = olds_reversed diff
olds_reversed (Added line ∷ diff) = ap (λ ls. line.now ∷ ls) (olds_reversed diff)

news_reversed : (diff : List DiffLine) → new_lines (reversed diff) ≡ old_lines diff
news_reversed [] = refl
news_reversed (Common line ∷ diff) = ap (λ ls. line.now ∷ ls) (news_reversed diff)
news_reversed (Removed line ∷ diff) = ap (λ ls. line.now ∷ ls) (news_reversed diff)
news_reversed (Added line ∷ diff) = news_reversed diff

-- a reversed diff turns the new text into the old one
pub diff_reverses : (old new : List ℕ) (diff : List DiffLine) → IsDiff old new diff → applied (reversed diff) new ≡ Some old
diff_reverses old new diff h =
    diff_applies new old (reversed diff) (record { olds = olds_reversed diff ∙ h.news; news = news_reversed diff ∙ h.olds })
