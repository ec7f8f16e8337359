-- Where trivia between two tokens are: in the smallest node that contains both.
use Rattle.std.specs.Prelude.{◌≡◌, ◌⊎◌, true, false, List, [], ◌∷◌}
use Rattle.rnix_kinds.specs.declared.kinds.SyntaxKind.{SyntaxKind}
use Rattle.rnix_kinds.specs.SyntaxKind.{is_trivia}
use Rattle.rnix_green.specs.Forest.{Forest, empty, leaf, node, join}
use Rattle.rnix_green.specs.Tree.{Tree}
use Rattle.rnix_grammar.specs.Trim.{BeginsWithItem, EndsWithItem, leaf_kinds}

-- some kind is not trivia
abbrev pub HasItem : List SyntaxKind → Type 0
HasItem [] = ⊥
HasItem (k ∷ ks) = (is_trivia k ≡ false) ⊎ HasItem ks

-- all kinds are trivia
abbrev pub AreTrivia : List SyntaxKind → Type 0
AreTrivia [] = Unit {0}
AreTrivia (k ∷ ks) = (is_trivia k ≡ true) × AreTrivia ks

-- the kinds of the leaves of a forest's first tree
abbrev pub first_leaves : Forest → List SyntaxKind
first_leaves empty = []
first_leaves (leaf k t f) = k ∷ []
first_leaves (node k c f) = leaf_kinds c

-- the kinds of the leaves of the last tree, given those of the tree before
abbrev pub last_from : List SyntaxKind → Forest → List SyntaxKind
last_from ks empty = ks
last_from ks (leaf k t f) = last_from (k ∷ []) f
last_from ks (node k c f) = last_from (leaf_kinds c) f

-- the kinds of the leaves of a forest's last tree
abbrev pub last_leaves : Forest → List SyntaxKind
last_leaves f = last_from [] f

-- no node of the forest has leaves: all leaves are trees of the forest
abbrev pub HaveNone : Forest → Type 0
HaveNone empty = Unit {0}
HaveNone (leaf k t f) = HaveNone f
HaveNone (node k c f) = (leaf_kinds c ≡ []) × HaveNone f

-- Three parts of a list of children, one after the other: the first ends with a token that is not trivia, the last begins with one, and the
-- leaves between them are children themselves.
pub record IsTriviaBetween (x y z : Forest) : Type 0 where
  pub ends : EndsWithItem (leaf_kinds x)
  pub own : HaveNone y
  pub begins : BeginsWithItem (leaf_kinds z)

-- If one child contains a token, a later child the next one, and only trivia are between these, then the trivia are children too.
abbrev pub HasTriviaBetween : Forest → Type 0
HasTriviaBetween c = (x y z : Forest) → c ≡ join x (join y z) → HasItem (last_leaves x) → AreTrivia (leaf_kinds y) → HasItem (first_leaves z)
    → IsTriviaBetween x y z

-- the same for the children of each node
abbrev pub HaveTriviaBetween : Forest → Type 0
HaveTriviaBetween empty = Unit {0}
HaveTriviaBetween (leaf k t f) = HaveTriviaBetween f
HaveTriviaBetween (node k c f) = HasTriviaBetween c × HaveTriviaBetween c × HaveTriviaBetween f

-- in a tree, trivia between two tokens are children of the smallest node that contains both, where the two are in different children
abbrev pub AreTriviaBetween : Tree → Type 0
AreTriviaBetween tree = HasTriviaBetween tree.children × HaveTriviaBetween tree.children
