-- Nodes that end with a bracket of their own, and begin with one, or with `rec` or `let` before one.
use Rattle.std.specs.Prelude.{◌≡◌, ℕ, Bool, true, false, List}
use Rattle.rnix_kinds.specs.declared.kinds.SyntaxKind.{SyntaxKind}
use Rattle.rnix_kinds.specs.declared.kinds.SyntaxKind.TheVariants.{NODE_ATTR_SET, NODE_LEGACY_LET, NODE_LIST, NODE_PAREN, NODE_STRING, TOKEN_L_BRACE}
use Rattle.rnix_kinds.specs.declared.kinds.SyntaxKind.TheVariants.{TOKEN_L_BRACK, TOKEN_L_PAREN, TOKEN_LET, TOKEN_R_BRACE, TOKEN_R_BRACK, TOKEN_R_PAREN}
use Rattle.rnix_kinds.specs.declared.kinds.SyntaxKind.TheVariants.{TOKEN_REC, TOKEN_STRING_END, TOKEN_STRING_START}
use Rattle.rnix_kinds.specs.SyntaxKind.{is_trivia}
use Rattle.rnix_green.specs.Forest.{Forest, leaf}

-- the kind of a node, and of the tokens that it begins and ends with: a set, with `rec` or without, a `let { }`, a list, parentheses or a string
pub data IsBracketed : SyntaxKind → SyntaxKind → SyntaxKind → Type 0 where
  set : IsBracketed NODE_ATTR_SET TOKEN_L_BRACE TOKEN_R_BRACE
  recursive_set : IsBracketed NODE_ATTR_SET TOKEN_REC TOKEN_R_BRACE
  legacy_let : IsBracketed NODE_LEGACY_LET TOKEN_LET TOKEN_R_BRACE
  list : IsBracketed NODE_LIST TOKEN_L_BRACK TOKEN_R_BRACK
  paren : IsBracketed NODE_PAREN TOKEN_L_PAREN TOKEN_R_PAREN
  string : IsBracketed NODE_STRING TOKEN_STRING_START TOKEN_STRING_END

-- two forests begin with the same trivia and then the same `{`
pub data HaveSameBrace : Forest → Forest → Type 0 where
  at_brace : (s : List ℕ) (f g : Forest) → HaveSameBrace (leaf TOKEN_L_BRACE s f) (leaf TOKEN_L_BRACE s g)
  past_trivia : (k : SyntaxKind) (s : List ℕ) {f g : Forest} → is_trivia k ≡ true → HaveSameBrace f g → HaveSameBrace (leaf k s f) (leaf k s g)

-- `rec` and `let`, which are before the opening brace of a node
abbrev pub precedes_brace : SyntaxKind → Bool
precedes_brace TOKEN_REC = true
precedes_brace TOKEN_LET = true
precedes_brace k = false
