-- Trees without trivia.
use Rattle.std.specs.Prelude.{ℕ, Bool, true, false, List}
use Rattle.rnix_kinds.specs.declared.kinds.SyntaxKind.{SyntaxKind}
use Rattle.rnix_kinds.specs.SyntaxKind.{is_trivia}
use Rattle.rnix_green.specs.Forest.{Forest, empty, leaf, node}

-- a leaf before other trees, unless it is trivia
abbrev pub leaf_unless : Bool → SyntaxKind → List ℕ → Forest → Forest
leaf_unless true k t f = f
leaf_unless false k t f = leaf k t f

-- the trees without the leaves that are trivia
abbrev pub significant : Forest → Forest
significant empty = empty
significant (leaf k t f) = leaf_unless (is_trivia k) k t (significant f)
significant (node k c f) = node k (significant c) (significant f)
