-- Where the errors of a text are shown.
use Rattle.std.specs.Prelude.{ℕ, ◌==◌, ◌&&◌, Bool, List, [], ◌∷◌, find, Option, Some, None, option_map, if◌then◌else◌}
use Rattle.rnix_kinds.specs.SyntaxKind.{is_trivia}
use Rattle.rnix_green.specs.Range.{Extent}
use Rattle.rnix_green.specs.Tree.{Located, item_of, extent_of}
use Rattle.rnix_green.specs.Walk.{Spot, elements_of, nodes_in}
use Rattle.rnix_grammar.specs.Fault.{Fault, too_deep}
use Rattle.rnix_grammar.specs.Ranges.{range_in, is_error_node}

-- the end of a token, or the end so far if the token is trivia
abbrev pub end_after : ℕ → Spot → ℕ
end_after end spot = if spot.0 then end else (if is_trivia (item_of spot.1).kind then end else (item_of spot.1).end)

-- the end of the last token of a walk that is not trivia, or the end so far if there is none
abbrev pub last_end : ℕ → List Spot → ℕ
last_end end [] = end
last_end end (spot ∷ spots) = last_end (end_after end spot) spots

-- the end of the last token inside an element that is not trivia, 0 if there is none
abbrev pub end_of_items : Located → ℕ
end_of_items root = last_end 0 (elements_of root)

-- an error node that ends at an offset
abbrev pub is_error_up_to : ℕ → Located → Bool
is_error_up_to end e = is_error_node (item_of e).kind && (item_of e).end == end

-- the range of the first error node that ends at an offset, if there is one
abbrev pub error_range : ℕ → Located → Option Extent
error_range end root = option_map extent_of (find (is_error_up_to end) (nodes_in (elements_of root)))

-- a range, or the empty range at an offset if there is none
abbrev pub range_or : ℕ → Option Extent → Extent
range_or end None = record { start = end; end = end }
range_or end (Some range) = range

-- the range of an error, if it has one; for the nesting limit, that of the first error node that ends with the last token that is not trivia
abbrev pub own_range : Located → Fault → Option Extent
own_range root too_deep = error_range (end_of_items root) root
own_range root fault = range_in fault

-- where an error is shown: at its range, or if it has none, at the end of the last token that is not trivia
abbrev pub location_of : Located → Fault → Extent
location_of root fault = range_or (end_of_items root) (own_range root fault)
