-- What follows a node on its line.
use Rattle.std.specs.Prelude.{ℕ, ◌+◌, ◌-◌, ◌==◌, nat_lt, Bool, List, [], ◌∷◌, length, drop, Option, Some, None, if◌then◌else◌}
use Rattle.std.specs.List.{position_or_len, after_first}
use Rattle.rnix_kinds.specs.declared.kinds.SyntaxKind.{SyntaxKind}
use Rattle.rnix_kinds.specs.declared.kinds.SyntaxKind.TheVariants as k
use Rattle.rnix_green.specs.Equality.{same_kind}
use Rattle.rnix_green.specs.Tree.{Located, item_of, text_at}
use Rattle.rnix_green.specs.Walk.{Spot, children_of}
use Rattle.rnix_tree.specs.Siblings.{siblings_of}
use Rattle.rnix_tree.specs.declared.siblings.Direction.TheVariants.{Next}
use Rattle.rnix_edit.specs.declared.line.Part.{Part}
use Rattle.rnix_edit.specs.declared.line.Part.TheVariants as part
use Rattle.rnix_edit.specs.declared.line.RestOfLine.{RestOfLine}

-- whether a byte is a line feed
abbrev pub is_feed : ℕ → Bool
is_feed byte = byte == 10

-- the offset at which the second line of a token begins, if it has one
abbrev pub second_line : Located → Option ℕ
second_line e =
    if nat_lt (position_or_len is_feed (text_at e)) (length (text_at e)) then Some ((item_of e).end - length (after_first is_feed (text_at e))) else None

-- how a token affects the rest of its line, given its kind and the offset of its second line
abbrev pub token_part : SyntaxKind → Option ℕ → Part
token_part kind None = if same_kind kind k.TOKEN_WHITESPACE then part.Blanks else (if same_kind kind k.TOKEN_COMMENT then part.Comment else part.Other)
token_part kind (Some next) = if same_kind kind k.TOKEN_WHITESPACE then part.LineBreak next else part.Other

-- how an element affects the rest of its line
abbrev pub part_of : Spot → Part
part_of spot = if spot.0 then part.Other else token_part (item_of spot.1).kind (second_line spot.1)

-- an element follows some comments, the last of which ends at an offset; `more` continues with the elements after it
abbrev pub rest_after : Spot → Part → (ℕ → ℕ → Option RestOfLine) → ℕ → ℕ → Option RestOfLine
rest_after spot part.Blanks more comments end = more comments end
rest_after spot (part.LineBreak next) more comments end = Some (record { next_line = next; comments = comments; end = end })
rest_after spot part.Comment more comments end = more (comments + 1) (item_of spot.1).end
rest_after spot part.Other more comments end = None

-- these elements follow some comments, the last of which ends at an offset
abbrev pub rest_from : List Spot → ℕ → ℕ → Option RestOfLine
rest_from [] comments end = None
rest_from (spot ∷ spots) comments end = rest_after spot (part_of spot) (rest_from spots) comments end

-- the siblings after an element
abbrev pub siblings_after : Located → List Spot
siblings_after e = drop 1 (siblings_of Next e)

-- the comments after a node, each on one line, if nothing else follows them on the line
abbrev pub rest_of_line : Located → Option RestOfLine
rest_of_line node = rest_from (siblings_after node) 0 (item_of node).end

-- the start of an element if it is a token, otherwise another offset
abbrev pub token_start : ℕ → Spot → ℕ
token_start end spot = if spot.0 then end else (item_of spot.1).start

-- the start of the last of some elements if it is a token, otherwise the end of their node
abbrev pub closing_from : List Spot → ℕ → ℕ → ℕ
closing_from [] end closing = closing
closing_from (spot ∷ spots) end closing = closing_from spots end (token_start end spot)

-- the start of the last token of a node if the node ends with a token, otherwise the end of the node
abbrev pub closing_start : Located → ℕ
closing_start node = closing_from (children_of node) (item_of node).end (item_of node).end
