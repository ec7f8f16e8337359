-- The lines that are printed of a tree's elements.
use Rattle.std.specs.Prelude.{ℕ, ◌+◌, nat_lt, List, [], ◌++◌, take, length, codes, Option, Some, if◌then◌else◌}
use Rattle.std.specs.List.{repeat}
use Rattle.std.specs.Fmt.{◌++?◌, debug_str}
use Rattle.rnix_kinds.specs.declared.kinds.SyntaxKind.{SyntaxKind}
use Rattle.rnix_kinds.specs.SyntaxKind.{name_of}
use Rattle.rnix_green.specs.Range.{Extent, extent_text}
use Rattle.rnix_green.specs.Forest.{Forest, empty, leaf, node, text_of, element_count}
use Rattle.rnix_green.specs.Walk.{Spot, spot_at}
use Rattle.rnix_green.specs.Tree.{Tree, Located, item_of, extent_of, text_at, part_at}

-- an element's kind and range
abbrev pub element_text : SyntaxKind → Extent → List ℕ
element_text kind range = name_of kind ++ codes "@" ++ extent_text range

-- a token's text as it is shown: where it has 25 bytes or more, its first 21 and an ellipsis
abbrev pub shown : List ℕ → List ℕ
shown text = if nat_lt (length text) 25 then text else take 21 text ++ codes " ..."

-- a token's kind, its range, and its text in quotes; left open if the text as it is shown is not all ASCII
abbrev pub token_text : Located → Option (List ℕ)
token_text e = Some (element_text (item_of e).kind (extent_of e)) ++? Some (codes " ") ++? debug_str (shown (text_at e))

-- two spaces for each level
abbrev pub indent : ℕ → List ℕ
indent depth = repeat depth (codes "  ")

-- the end of an element's line: its range
abbrev pub range_end : Extent → List ℕ
range_end range = codes "@" ++ extent_text range ++ codes "\n"

-- an element's line without its indent: its kind's name, its range
abbrev pub line_end : Located → List ℕ
line_end e = name_of (item_of e).kind ++ range_end (extent_of e)

-- an element's line: the indent of its depth, its kind's name, its range
abbrev pub line_of : ℕ → SyntaxKind → Extent → List ℕ
line_of depth kind range = indent depth ++ name_of kind ++ range_end range

-- the line of an element of a tree
abbrev pub element_line : ℕ → Located → List ℕ
element_line depth e = line_of depth (item_of e).kind (extent_of e)

-- the lines of a forest at a depth, whose text begins at the offset s: each element's line comes before those of what is inside it, one deeper
abbrev pub lines_from : ℕ → ℕ → Forest → List ℕ
lines_from depth s empty = []
lines_from depth s (leaf k t f) = line_of depth k record { start = s; end = s + length t } ++ lines_from depth (s + length t) f
lines_from depth s (node k c f) =
    line_of depth k record { start = s; end = s + length (text_of c) }
    ++ lines_from (depth + 1) s c ++ lines_from depth (s + length (text_of c)) f

-- the lines of an element and what is inside it, where the element itself is not indented
abbrev pub lines_of : Located → List ℕ
lines_of e = lines_from 0 (item_of e).start (part_at e)

-- what `{:?}` prints of a node or a token
abbrev pub spot_text : Spot → Option (List ℕ)
spot_text spot = if spot.0 then Some (element_text (item_of spot.1).kind (extent_of spot.1)) else token_text spot.1

-- the line of an element with its text: the indent of its depth, and what `{:?}` prints of it
abbrev pub text_line : ℕ → Spot → Option (List ℕ)
text_line depth spot = Some (indent depth) ++? spot_text spot ++? Some (codes "\n")

-- such lines of a forest at a depth, numbered from n: each element's line comes before those of what is inside it, one deeper
abbrev pub text_lines_from : Tree → ℕ → ℕ → Forest → Option (List ℕ)
text_lines_from t depth n empty = Some []
text_lines_from t depth n (leaf k u f) = text_line depth (spot_at t n) ++? text_lines_from t depth (n + 1) f
text_lines_from t depth n (node k c f) =
    text_line depth (spot_at t n) ++? text_lines_from t (depth + 1) (n + 1) c ++? text_lines_from t depth (n + 1 + element_count c) f

-- such lines of an element and what is inside it, where the element itself is not indented
abbrev pub text_lines_of : Located → Option (List ℕ)
text_lines_of e = text_lines_from e.tree 0 e.number (part_at e)
