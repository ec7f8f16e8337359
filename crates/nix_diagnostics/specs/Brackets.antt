-- Tokens that open or close something, and whether a node balances them.
use Rattle.std.specs.Prelude.{ℕ, ◌+◌, ◌-◌, ◌==◌, nat_lt, ◌&&◌, Bool, true, false, not, List, [], ◌∷◌, Option, Some, None, if◌then◌else◌}
use Rattle.rnix_kinds.specs.declared.kinds.SyntaxKind.{SyntaxKind}
use Rattle.rnix_kinds.specs.declared.kinds.SyntaxKind.TheVariants.{TOKEN_L_BRACE, TOKEN_L_BRACK, TOKEN_L_PAREN, TOKEN_INTERPOL_START}
use Rattle.rnix_kinds.specs.declared.kinds.SyntaxKind.TheVariants.{TOKEN_STRING_START, TOKEN_LET, TOKEN_IF, TOKEN_THEN, TOKEN_R_BRACE}
use Rattle.rnix_kinds.specs.declared.kinds.SyntaxKind.TheVariants.{TOKEN_R_BRACK, TOKEN_R_PAREN, TOKEN_INTERPOL_END, TOKEN_STRING_END, TOKEN_IN, TOKEN_ELSE}
use Rattle.rnix_green.specs.Range.{Extent}
use Rattle.rnix_green.specs.Tree.{Located, item_of}
use Rattle.rnix_green.specs.Walk.{Spot, elements_of}

-- a token of the kind opens something
abbrev pub opens : SyntaxKind → Bool
opens TOKEN_L_BRACE = true
opens TOKEN_L_BRACK = true
opens TOKEN_L_PAREN = true
opens TOKEN_INTERPOL_START = true
opens TOKEN_STRING_START = true
opens TOKEN_LET = true
opens TOKEN_IF = true
opens TOKEN_THEN = true
opens kind = false

-- a token of the kind closes something
abbrev pub closes : SyntaxKind → Bool
closes TOKEN_R_BRACE = true
closes TOKEN_R_BRACK = true
closes TOKEN_R_PAREN = true
closes TOKEN_INTERPOL_END = true
closes TOKEN_STRING_END = true
closes TOKEN_IN = true
closes TOKEN_THEN = true
closes TOKEN_ELSE = true
closes kind = false

-- there is a range, and the token has it
abbrev pub has_range : Option Extent → Located → Bool
has_range None token = false
has_range (Some range) token = range.start == (item_of token).start && range.end == (item_of token).end

-- a token closes something opened before the walk, where `depth` tokens opened in the walk are still open; the unmatched token closes nothing
abbrev pub closes_around : Option Extent → ℕ → Located → Bool
closes_around unmatched depth token = closes (item_of token).kind && (depth == 0 && not (has_range unmatched token))

-- the number of open tokens after a token of the kind; `then` closes `if`, and opens what `else` closes
abbrev pub depth_after : ℕ → SyntaxKind → ℕ
depth_after depth kind = (if closes kind then depth - 1 else depth) + (if opens kind then 1 else 0)

-- the tokens of a walk close something opened before it, or leave something open, where `depth` tokens are open already
abbrev pub is_unbalanced : Option Extent → ℕ → List Spot → Bool
is_unbalanced unmatched depth [] = nat_lt 0 depth
is_unbalanced unmatched depth (spot ∷ spots) =
    if spot.0 then is_unbalanced unmatched depth spots
    else (if closes_around unmatched depth spot.1 then true else is_unbalanced unmatched (depth_after depth (item_of spot.1).kind) spots)

-- the tokens of a node close something around it or leave something open; the unmatched token closes nothing
abbrev pub skips_brackets : Option Extent → Located → Bool
skips_brackets unmatched node = is_unbalanced unmatched 0 (elements_of node)
