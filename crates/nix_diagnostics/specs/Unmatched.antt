-- The first closing token of a text that closes nothing.
use Rattle.std.specs.Prelude.{Bool, true, false, not, List, [], ◌∷◌, reverse, Option, Some, None, option_map, if◌then◌else◌}
use Rattle.rnix_kinds.specs.declared.kinds.SyntaxKind.{SyntaxKind}
use Rattle.rnix_kinds.specs.declared.kinds.SyntaxKind.TheVariants.{TOKEN_L_BRACE, TOKEN_L_BRACK, TOKEN_L_PAREN, TOKEN_INTERPOL_START}
use Rattle.rnix_kinds.specs.declared.kinds.SyntaxKind.TheVariants.{TOKEN_STRING_START, TOKEN_LET, TOKEN_IF, TOKEN_THEN, TOKEN_R_BRACE}
use Rattle.rnix_kinds.specs.declared.kinds.SyntaxKind.TheVariants.{TOKEN_R_BRACK, TOKEN_R_PAREN, TOKEN_INTERPOL_END, TOKEN_STRING_END, TOKEN_IN, TOKEN_ELSE}
use Rattle.rnix_green.specs.Equality.{same_kind}
use Rattle.rnix_green.specs.Range.{Extent, bounds_of}
use Rattle.rnix_green.specs.Tree.{Located, item_of, extent_of}
use Rattle.rnix_green.specs.Walk.{Spot, elements_of}
use Rattle.nix_diagnostics.specs.Brackets.{opens}
use Rattle.nix_diagnostics.specs.declared.openings.Openings.{Openings}

-- the kind of the token that a token of this kind closes, if it closes one
abbrev pub opener_of : SyntaxKind → Option SyntaxKind
opener_of TOKEN_R_BRACE = Some TOKEN_L_BRACE
opener_of TOKEN_R_BRACK = Some TOKEN_L_BRACK
opener_of TOKEN_R_PAREN = Some TOKEN_L_PAREN
opener_of TOKEN_INTERPOL_END = Some TOKEN_INTERPOL_START
opener_of TOKEN_STRING_END = Some TOKEN_STRING_START
opener_of TOKEN_IN = Some TOKEN_LET
opener_of TOKEN_THEN = Some TOKEN_IF
opener_of TOKEN_ELSE = Some TOKEN_THEN
opener_of kind = None

-- a token of the kind is among the open ones
abbrev pub is_open : SyntaxKind → List SyntaxKind → Bool
is_open kind [] = false
is_open kind (k ∷ stack) = if same_kind k kind then true else is_open kind stack

-- what is open around the innermost token of the kind, the innermost first; nothing if none is open
abbrev pub open_around : SyntaxKind → List SyntaxKind → List SyntaxKind
open_around kind [] = []
open_around kind (k ∷ stack) = if same_kind k kind then stack else open_around kind stack

-- a token that closes tokens of the kind, if there is a kind, closes none of the open ones
abbrev pub closes_none : Option SyntaxKind → List SyntaxKind → Bool
closes_none None stack = false
closes_none (Some kind) stack = not (is_open kind stack)

-- what is open after such a token: it closes the innermost open token of the kind, and all inside that one
abbrev pub after_closing : Option SyntaxKind → List SyntaxKind → List SyntaxKind
after_closing None stack = stack
after_closing (Some kind) stack = open_around kind stack

-- what is open after a token of the kind
abbrev pub open_after : SyntaxKind → List SyntaxKind → List SyntaxKind
open_after kind stack = if opens kind then kind ∷ after_closing (opener_of kind) stack else after_closing (opener_of kind) stack

-- the first closing token of a walk that closes nothing; the stack is open before the walk
abbrev pub unmatched_in : List SyntaxKind → List Spot → Option Extent
unmatched_in stack [] = None
unmatched_in stack (spot ∷ spots) =
    if spot.0 then unmatched_in stack spots
    else (if closes_none (opener_of (item_of spot.1).kind) stack then Some (extent_of spot.1)
    else unmatched_in (open_after (item_of spot.1).kind stack) spots)

-- the first closing token inside an element that closes nothing
abbrev pub unmatched : Located → Option Extent
unmatched root = unmatched_in [] (elements_of root)

-- a range, or if there is none, the first closing token of a walk that closes nothing
abbrev pub unmatched_or : Option Extent → List SyntaxKind → List Spot → Option Extent
unmatched_or None stack spots = unmatched_in stack spots
unmatched_or (Some range) stack spots = Some range

-- the first closing token that closes nothing, among those already read and those that follow
abbrev pub unmatched_after : Openings → List Spot → Option Extent
unmatched_after read spots = unmatched_or (option_map bounds_of read.extra) (reverse read.opened.items) spots
