-- Error nodes with brackets, and whether they skip them; by computation. Each token has one byte.
use Rattle.std.proofs.Common.{◌≡◌, true, false, List, [], ◌∷◌, Some, None, refl}
use Rattle.rnix_kinds.specs.declared.kinds.SyntaxKind.{SyntaxKind}
use Rattle.rnix_kinds.specs.declared.kinds.SyntaxKind.TheVariants as k
use Rattle.rnix_green.specs.{Forest.{Forest, empty, leaf}, Tree.Located}
use Rattle.nix_diagnostics.specs.Brackets.{skips_brackets}
use Rattle.nix_diagnostics.specs.Unmatched.{unmatched}

-- tokens of the kinds
abbrev tokens : List SyntaxKind → Forest
tokens [] = empty
tokens (kind ∷ kinds) = leaf kind (40 ∷ []) (tokens kinds)

-- an error node with tokens of the kinds
abbrev error : List SyntaxKind → Located
error kinds = record { tree = record { kind = k.NODE_ERROR; children = tokens kinds }; number = 0 }

-- brackets that are closed are not skipped
closed : skips_brackets None (error (k.TOKEN_L_PAREN ∷ k.TOKEN_COMMA ∷ k.TOKEN_R_PAREN ∷ [])) ≡ false
closed = refl

-- a bracket that is left open is skipped
remaining_open : skips_brackets None (error (k.TOKEN_L_PAREN ∷ k.TOKEN_COMMA ∷ [])) ≡ true
remaining_open = refl

-- so is a bracket that closes what is open before the node
closes_outer : skips_brackets None (error (k.TOKEN_R_PAREN ∷ k.TOKEN_L_PAREN ∷ [])) ≡ true
closes_outer = refl

-- unless it is the unmatched one
unmatched_token : skips_brackets (Some record { start = 0; end = 1 }) (error (k.TOKEN_R_PAREN ∷ k.TOKEN_COMMA ∷ [])) ≡ false
unmatched_token = refl

-- `then` closes `if`, and `else` closes `then`
whole_if : skips_brackets None (error (k.TOKEN_IF ∷ k.TOKEN_THEN ∷ k.TOKEN_ELSE ∷ [])) ≡ false
whole_if = refl

-- `else` alone closes a `then` before the node
else_alone : skips_brackets None (error (k.TOKEN_ELSE ∷ [])) ≡ true
else_alone = refl

-- the first token that closes nothing: there is none where all is closed
all_closed : unmatched (error (k.TOKEN_L_PAREN ∷ k.TOKEN_L_BRACK ∷ k.TOKEN_R_BRACK ∷ k.TOKEN_R_PAREN ∷ [])) ≡ None
all_closed = refl

-- a second closing parenthesis closes nothing
one_too_many : unmatched (error (k.TOKEN_L_PAREN ∷ k.TOKEN_R_PAREN ∷ k.TOKEN_R_PAREN ∷ [])) ≡ Some record { start = 2; end = 3 }
one_too_many = refl

-- a parenthesis closes what is open inside it, so that its bracket closes nothing
crossed : unmatched (error (k.TOKEN_L_PAREN ∷ k.TOKEN_L_BRACK ∷ k.TOKEN_R_PAREN ∷ k.TOKEN_R_BRACK ∷ [])) ≡ Some record { start = 3; end = 4 }
crossed = refl

-- `then` closes `if`, and a second `else` closes nothing
second_else : unmatched (error (k.TOKEN_IF ∷ k.TOKEN_THEN ∷ k.TOKEN_ELSE ∷ k.TOKEN_ELSE ∷ [])) ≡ Some record { start = 3; end = 4 }
second_else = refl
