-- Lines that are split off a text, and diffs that grow.
use Rattle.std.proofs.Common.{◌≡◌, ℕ, suc, ◌+◌, ◌<◌, List, [], ◌∷◌, ◌++◌, length, take, drop, get_or, Option, Some, None, refl, ap, sym, subst, ◌∙◌, arith, append_assoc}
use Rattle.std.proofs.lemmas.{Bool.{ne_eqb}, List.{append-nil, append_cancel_left, map-append, take_more, drop_more, take-append-drop, length-append, length-drop, nil_from_length}}
use Rattle.std.proofs.lemmas.{List.Concat.{flat_map-append}, Str.Pattern.{NoCharPasses-char, drop_at_char}}
use Rattle.std.specs.{Prelude.{if◌then◌else◌, ◌≢◌, MatchOption}, Str.Pattern.{FindsChar, HasCharAt, EndsAtFirstMatch}}
use denote.Ref.{Bor}
use Rattle.nix_diff.specs.declared.diff.{DiffLine.{DiffLine, TheVariants.{Common}}, Line.{Line}}
use Rattle.nix_diff.specs.Diff.{line_feed, HasNoLineFeed, lines_with, lines_of, old_line, new_line, old_lines, new_lines, texts_of}

-- nor does the text after its first byte
rest_has_none : (b : ℕ) (bs : List ℕ) → HasNoLineFeed (b ∷ bs) → HasNoLineFeed bs
rest_has_none b bs none i less = none (suc i) (omega (arith, less))

-- a byte other than a line feed continues the first line
begins_line : (b : ℕ) (line : List ℕ) (lines : List (List ℕ)) → b ≢ line_feed → lines_with b (line ∷ lines) ≡ (b ∷ line) ∷ lines
begins_line b line lines other =
    ap (λ t. if t then (b ∷ []) ∷ line ∷ lines else (b ∷ line) ∷ lines) (ne_eqb b line_feed other)

-- a text without line feeds is one line
one_line : (b : ℕ) (bs : List ℕ) → HasNoLineFeed (b ∷ bs) → lines_of (b ∷ bs) ≡ (b ∷ bs) ∷ []
one_line b [] none = refl
one_line b (c ∷ bs) none =
    ap (lines_with b) (one_line c bs (rest_has_none b (c ∷ bs) none)) ∙ begins_line b (c ∷ bs) [] (none 0 (omega arith))

-- a line feed ends the first line
feed_ends : (lines : List (List ℕ)) → lines_with line_feed lines ≡ (line_feed ∷ []) ∷ lines
feed_ends [] = refl
feed_ends (line ∷ lines) = refl

first_line : (front rest : List ℕ) → HasNoLineFeed front → lines_of (front ++ line_feed ∷ rest) ≡ (front ++ line_feed ∷ []) ∷ lines_of rest
first_line [] rest none = feed_ends (lines_of rest)
first_line (b ∷ bs) rest none =
    ap (lines_with b) (first_line bs rest (rest_has_none b bs none)) ∙ begins_line b (bs ++ line_feed ∷ []) (lines_of rest) (none 0 (omega arith))

-- a line that is the whole text
whole_line : (text rest : List ℕ) → text ≡ text ++ rest → 0 < length text → HasNoLineFeed text → lines_of text ≡ text ∷ lines_of rest
whole_line [] rest cut some none = absurd (omega (arith, some))
whole_line (b ∷ bs) [] cut some none = one_line b bs none
whole_line (b ∷ bs) (c ∷ rest) cut some none = absurd (omega (arith, ap length cut, length-append (b ∷ bs) (c ∷ rest)))

-- a line up to the first line feed
line_to_feed : (text line rest : List ℕ) (i j : ℕ) → text ≡ line ++ rest → HasCharAt line_feed text i j → line ≡ take j text
    → HasNoLineFeed (take i text) → lines_of text ≡ line ∷ lines_of rest
line_to_feed text line rest i j cut found is none =
    let next : j ≡ i + 1 = omega (arith, found.ends) in
    let behind : drop i text ≡ line_feed ∷ drop j text = drop_at_char line_feed text i j found (omega arith) in
    let inside : i < length text = omega (arith, ap length behind, length-drop i text) in
    let split : text ≡ take i text ++ line_feed ∷ drop j text = sym (take-append-drop i text) ∙ ap (λ z. take i text ++ z) behind in
    let ends : line ≡ take i text ++ line_feed ∷ [] =
    is ∙ ap (λ n. take n text) next ∙ take_more text i 0 inside ∙ ap (λ b. take i text ++ b ∷ []) (found.byte (omega arith)) in
    let same : line ++ rest ≡ line ++ drop j text =
    sym cut ∙ split ∙ sym (append_assoc (take i text) (line_feed ∷ []) (drop j text)) ∙ ap (λ z. z ++ drop j text) (sym ends) in
    ap lines_of split ∙ first_line (take i text) (drop j text) none
    ∙ ap (λ z. z ∷ lines_of (drop j text)) (sym ends) ∙ ap (λ z. line ∷ lines_of z) (sym (append_cancel_left line rest (drop j text) same))

-- the part of a text up to its first line feed is its first line
line_cut : (text line rest : List ℕ) (at : Option (ℕ × ℕ)) → text ≡ line ++ rest → FindsChar line_feed text at
    → MatchOption at ((line ≡ text) × (0 < length text)) (λ q. 0 < q.1 → line ≡ take q.1 text) → lines_of text ≡ line ∷ lines_of rest
line_cut text line rest None cut found is =
    let all : text ≡ text ++ rest = cut ∙ ap (λ z. z ++ rest) is.0 in
    whole_line text rest all is.1 (λ i less. NoCharPasses-char line_feed text i found (omega arith) less) ∙ ap (λ z. z ∷ lines_of rest) (sym is.0)
line_cut text line rest (Some q) cut found is =
    line_to_feed text line rest q.0 q.1 cut found.1 (is (omega (arith, found.1.ends)))
    (λ i less. NoCharPasses-char line_feed (take q.0 text) i found.0 (omega arith) less)

-- one more line is split off a text
pub line_next : (lines more : List Line) (line : Line) (text rest : List ℕ) (pattern : ℕ) (all : List (List ℕ)) → more ≡ lines ++ line ∷ []
    → pattern ≡ line_feed → text ≡ line.text.now ++ rest → EndsAtFirstMatch (FindsChar pattern) text line.text.now
    → texts_of lines ++ lines_of text ≡ all → texts_of more ++ lines_of rest ≡ all
line_next lines more line text rest pattern all grown is_feed cut ends before =
    let found : FindsChar line_feed text ends.0 = subst (λ p. FindsChar p text ends.0) is_feed ends.1 in
    ap (λ ls. texts_of ls ++ lines_of rest) grown
    ∙ ap (λ z. z ++ lines_of rest) (map-append (λ (l : Line). l.text.now) lines (line ∷ []))
    ∙ append_assoc (texts_of lines) (line.text.now ∷ []) (lines_of rest)
    ∙ ap (λ z. texts_of lines ++ z) (sym (line_cut text line.text.now rest ends.0 cut found ends.2)) ∙ before

-- nothing remains of the text
pub no_line_next : (lines : List Line) (rest : List ℕ) (all : List (List ℕ)) → length rest ≡ 0 → texts_of lines ++ lines_of rest ≡ all
    → texts_of lines ≡ all
no_line_next lines rest all none is =
    sym (append-nil (texts_of lines)) ∙ ap (λ z. texts_of lines ++ lines_of z) (sym (nil_from_length rest none)) ∙ is

-- a diff with one more line
pub old_more : (diff : List DiffLine) (line : DiffLine) → old_lines (diff ++ line ∷ []) ≡ old_lines diff ++ old_line line
old_more diff line = flat_map-append old_line diff (line ∷ []) ∙ ap (λ z. old_lines diff ++ z) (append-nil (old_line line))

pub new_more : (diff : List DiffLine) (line : DiffLine) → new_lines (diff ++ line ∷ []) ≡ new_lines diff ++ new_line line
new_more diff line = flat_map-append new_line diff (line ∷ []) ∙ ap (λ z. new_lines diff ++ z) (append-nil (new_line line))

-- lines of the new text are added, and the next one is common
pub common_added : (diff between more : List DiffLine) (news front : List Line) (before : ℕ) (text : Bor (List ℕ)) (new : Line) → before < length news
    → front ≡ take before news → (get_or news before new).text.now ≡ text.now → new_lines between ≡ new_lines diff ++ texts_of front
    → more ≡ between ++ Common text ∷ [] → new_lines more ++ texts_of (drop (before + 1) news) ≡ new_lines diff ++ texts_of news
common_added diff between more news front before text new less front_is same added grown =
    let rest : List (List ℕ) = texts_of (drop (before + 1) news) in
    let head : List (List ℕ) = texts_of (take before news) in
    let parts : texts_of news ≡ head ++ (text.now ∷ rest) =
    ap texts_of (sym (take-append-drop before news)) ∙ map-append (λ (l : Line). l.text.now) (take before news) (drop before news)
    ∙ ap (λ ls. head ++ texts_of ls) (drop_more news before new less) ∙ ap (λ t. head ++ (t ∷ rest)) same in
    ap (λ ds. new_lines ds ++ rest) grown
    ∙ ap (λ z. z ++ rest) (new_more between (Common text) ∙ ap (λ z. z ++ text.now ∷ []) (added ∙ ap (λ ls. new_lines diff ++ texts_of ls) front_is))
    ∙ append_assoc (new_lines diff ++ head) (text.now ∷ []) rest
    ∙ append_assoc (new_lines diff) head (text.now ∷ rest)
    ∙ ap (λ z. new_lines diff ++ z) (sym parts)
