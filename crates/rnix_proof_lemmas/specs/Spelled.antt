-- Tokens whose texts fit their kinds.
use Rattle.std.specs.Prelude.{◌≡◌, ℕ, Bool, true, false, List, [], ◌∷◌, if◌then◌else◌}
use Rattle.rnix_kinds.specs.declared.kinds.SyntaxKind.{SyntaxKind}
use Rattle.rnix_kinds.specs.SyntaxKind.{is_token}
use Rattle.rnix_kinds.specs.declared.kinds.SyntaxKind.TheVariants.{TOKEN_IDENT, TOKEN_OR, TOKEN_CUR_POS}
use Rattle.rnix_grammar.specs.AnnotatedForest.{Token}
use Rattle.rnix_grammar.specs.Tables.{is_or}

-- a name is TOKEN_OR exactly if it is `or`; no token is TOKEN_CUR_POS, or has the kind of a node
abbrev pub is_spelled : SyntaxKind → List ℕ → Bool
is_spelled TOKEN_OR text = is_or text
is_spelled TOKEN_IDENT text = if is_or text then false else true
is_spelled TOKEN_CUR_POS text = false
is_spelled kind text = is_token kind

-- the text of each token fits its kind
abbrev pub AreSpelled : List Token → Type 0
AreSpelled [] = Unit {0}
AreSpelled (t ∷ ts) = (is_spelled t.kind t.text ≡ true) × AreSpelled ts
