-- Trees without white space and without the contents of strings.
use Rattle.std.specs.Prelude.{ℕ, Bool, true, false, List, []}
use Rattle.rnix_kinds.specs.declared.kinds.SyntaxKind.TheVariants.{TOKEN_STRING_CONTENT, TOKEN_WHITESPACE}
use Rattle.rnix_green.specs.Equality.{same_kind}
use Rattle.rnix_green.specs.Forest.{Forest, empty, leaf, node}
use Rattle.rnix_parser.specs.Significant.{leaf_unless}

-- the empty text if the flag is true, or else the given text
abbrev pub text_unless : Bool → List ℕ → List ℕ
text_unless true text = []
text_unless false text = text

-- the trees without white space, and without the text of the contents of strings; comments stay
abbrev pub outline : Forest → Forest
outline empty = empty
outline (leaf k t f) = leaf_unless (same_kind k TOKEN_WHITESPACE) k (text_unless (same_kind k TOKEN_STRING_CONTENT) t) (outline f)
outline (node k c f) = node k (outline c) (outline f)
