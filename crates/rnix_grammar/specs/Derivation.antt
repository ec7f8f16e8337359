-- Derivations: the expressions of the strict grammar that some items form.
use Rattle.std.specs.Prelude.{◌≡◌, ◌≤◌, Bool, true, ◌&&◌, List, [], ◌∷◌, map}
use Rattle.rnix_kinds.specs.declared.kinds.SyntaxKind.TheVariants.{NODE_ROOT}
use Rattle.rnix_kinds.specs.SyntaxKind.{is_token}
use Rattle.rnix_green.specs.Forest.{Forest, empty, leaf, node}
use Rattle.rnix_grammar.specs.Tables.{depth_limit}
use Rattle.rnix_grammar.specs.AnnotatedForest.{Token, lexeme_of, AnnotatedForest, blank, token, branch}
use Rattle.rnix_grammar.specs.Layout.{tail_of}
use Rattle.rnix_grammar.specs.Yield.{yield}
use Rattle.rnix_grammar.specs.PathPieces.{ArePaths}
use Rattle.rnix_grammar.specs.Nest.{nest}
use Rattle.rnix_grammar.specs.Grammar.{IsExpression}

-- the items after those of a forest
abbrev pub beyond : Forest → List Token → List Token
beyond empty ts = ts
beyond (leaf k t f) ts = beyond f (tail_of ts)
beyond (node k c f) ts = beyond f (beyond c ts)

-- each leaf with its item, from left to right
abbrev pub annotate : Forest → List Token → AnnotatedForest
annotate empty ts = blank
annotate (leaf k t f) [] = blank
annotate (leaf k t f) (x ∷ ts) = token k x (annotate f ts)
annotate (node k c f) ts = branch k (annotate c ts) (annotate f (beyond c ts))

-- each leaf has the kind of a token
abbrev pub has_tokens_alone : Forest → Bool
has_tokens_alone empty = true
has_tokens_alone (leaf k t f) = is_token k && has_tokens_alone f
has_tokens_alone (node k c f) = has_tokens_alone c && has_tokens_alone f

-- The tree is an expression of the strict grammar, nests at most 512 counted expressions, and has the items as its leaves, one by one. The
-- pieces of its paths touch, and no item that touches a path would continue it.
pub record IsDerivation (tree : Forest) (ts : List Token) : Type 0 where
  pub strict : IsExpression tree
  pub shallow : nest NODE_ROOT tree ≤ depth_limit
  pub yields : yield tree ≡ map lexeme_of ts
  pub joined : ArePaths (annotate tree ts) []
