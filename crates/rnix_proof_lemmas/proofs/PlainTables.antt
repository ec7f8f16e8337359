-- What may follow a tree of each kind.
use Rattle.std.proofs.Common.{ℕ, zero, suc, Bool, true, false, Option, Some, None, if◌then◌else◌, nat_le}
use Rattle.rnix_kinds.specs.declared.kinds.SyntaxKind.{SyntaxKind, TheVariants.{TOKEN_AT, TOKEN_COLON, TOKEN_DOT, TOKEN_INTERPOL_START}}
use Rattle.rnix_grammar.specs.{Levels.{binding_power}}

-- the tokens that make a longer name or path of what precedes them
abbrev pub is_bound : SyntaxKind → Bool
is_bound TOKEN_COLON = true
is_bound TOKEN_AT = true
is_bound TOKEN_INTERPOL_START = true
is_bound kind = false

-- the next token, if there is one, binds no tighter than the level, and makes no longer name or path of what precedes it
abbrev pub binds_at_most : ℕ → Option SyntaxKind → Bool
binds_at_most h None = true
binds_at_most h (Some k) = if is_bound k then false else nat_le (binding_power k) h

-- the next token is not `.`
abbrev pub is_no_dot : Option SyntaxKind → Bool
is_no_dot (Some TOKEN_DOT) = false
is_no_dot next = true

-- the next token is not `@`
abbrev pub is_no_at : Option SyntaxKind → Bool
is_no_at (Some TOKEN_AT) = false
is_no_at next = true

-- the level below one
abbrev pub below : ℕ → ℕ
below zero = 0
below (suc n) = n
