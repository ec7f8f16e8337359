-- The tokens of a strict tree.
use Rattle.std.specs.Prelude.{ℕ, List, [], ◌∷◌, ◌++◌, if◌then◌else◌}
use Rattle.rnix_kinds.specs.declared.kinds.SyntaxKind.{SyntaxKind}
use Rattle.rnix_kinds.specs.declared.kinds.SyntaxKind.TheVariants.{TOKEN_IDENT, TOKEN_OR, TOKEN_CUR_POS}
use Rattle.rnix_kinds.specs.Lexical.Tokens.{Lexeme}
use Rattle.rnix_green.specs.Forest.{Forest, empty, leaf, node}
use Rattle.rnix_grammar.specs.Tables.{is_or}

-- the kind of a leaf's token, by the leaf's kind and text
abbrev pub kind_of_token : SyntaxKind → List ℕ → SyntaxKind
kind_of_token TOKEN_IDENT text = if is_or text then TOKEN_OR else TOKEN_IDENT
kind_of_token TOKEN_CUR_POS text = TOKEN_IDENT
kind_of_token kind text = kind

-- the tokens of a tree
abbrev pub yield : Forest → List Lexeme
yield empty = []
yield (leaf k t f) = (kind_of_token k t, t) ∷ yield f
yield (node k c f) = yield c ++ yield f
