-- How a text ends, and what continues to its end.
use Rattle.std.specs.Prelude.{ℕ, nat_le, ◌&&◌, Bool, true, false, List, [], ◌∷◌, Option, Some, None, if◌then◌else◌}
use Rattle.std.specs.List.{list_any}
use Rattle.rnix_kinds.specs.declared.kinds.SyntaxKind.{SyntaxKind}
use Rattle.rnix_kinds.specs.declared.kinds.SyntaxKind.TheVariants.{TOKEN_STRING_START, TOKEN_STRING_CONTENT}
use Rattle.rnix_kinds.specs.SyntaxKind.{is_trivia}
use Rattle.rnix_green.specs.Tree.{Located, item_of}
use Rattle.rnix_green.specs.Walk.{Spot, elements_of}
use Rattle.rnix_green.specs.Relatives.{parent_of}
use Rattle.rnix_grammar.specs.Fault.{Fault, unexpected_eof, unexpected_eof_wanted}
use Rattle.nix_diagnostics.specs.Brackets.{opens, closes}
use Rattle.nix_diagnostics.specs.Locations.{end_of_items}

-- the kind of a token, or the kind so far if the token is trivia
abbrev pub kind_after : Option SyntaxKind → Spot → Option SyntaxKind
kind_after kind spot = if spot.0 then kind else (if is_trivia (item_of spot.1).kind then kind else Some (item_of spot.1).kind)

-- the kind of the last token of a walk that is not trivia, or the kind so far if there is none
abbrev pub last_kind_in : Option SyntaxKind → List Spot → Option SyntaxKind
last_kind_in kind [] = kind
last_kind_in kind (spot ∷ spots) = last_kind_in (kind_after kind spot) spots

-- the kind of the last token inside an element that is not trivia, if there is one
abbrev pub last_kind : Located → Option SyntaxKind
last_kind root = last_kind_in None (elements_of root)

-- a token of the kind begins a string, or is in one
abbrev pub is_of_string : SyntaxKind → Bool
is_of_string TOKEN_STRING_START = true
is_of_string TOKEN_STRING_CONTENT = true
is_of_string kind = false

-- there is a kind, and it passes a test
abbrev pub passes : (SyntaxKind → Bool) → Option SyntaxKind → Bool
passes test None = false
passes test (Some kind) = test kind

-- a text ends inside a string
abbrev pub ends_in_string : Located → Bool
ends_in_string root = passes is_of_string (last_kind root)

-- a text ends with a token that closes something
abbrev pub ends_closed : Located → Bool
ends_closed root = passes closes (last_kind root)

-- the error is at the end of the text
abbrev pub is_at_end : Fault → Bool
is_at_end unexpected_eof = true
is_at_end (unexpected_eof_wanted kinds) = true
is_at_end fault = false

-- a text with these errors ends too early
abbrev pub ends_early : List Fault → Bool
ends_early faults = list_any is_at_end faults

-- there is a node, and it ends at an offset or after it
abbrev pub reaches : ℕ → Option Located → Bool
reaches end None = false
reaches end (Some node) = nat_le end (item_of node).end

-- the start of the first token of a walk that opens something in a node that ends at an offset or after it
abbrev pub first_opening : ℕ → List Spot → Option ℕ
first_opening end [] = None
first_opening end (spot ∷ spots) =
    if spot.0 then first_opening end spots
    else (if opens (item_of spot.1).kind && reaches end (parent_of spot.1) then Some (item_of spot.1).start else first_opening end spots)

-- in a text that ends too early, the start of what is never closed: the first token that opens something in a node that continues to the last item
abbrev pub lost_from : Located → List Fault → Option ℕ
lost_from root all = if ends_early all then first_opening (end_of_items root) (elements_of root) else None

-- there is another offset, and this one is not before it
abbrev pub is_from : Option ℕ → ℕ → Bool
is_from None offset = false
is_from (Some start) offset = nat_le start offset
