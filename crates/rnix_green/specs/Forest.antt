-- Trees. A forest is a list of trees: a leaf has a kind and a text, a node has a kind and a forest of children.
use Rattle.std.specs.Prelude.{ℕ, zero, suc, ◌+◌, List, [], ◌∷◌, ◌++◌}
use Rattle.std.specs.Str.{IsUtf8}
use Rattle.rnix_kinds.specs.declared.kinds.SyntaxKind.{SyntaxKind}

-- no trees; a leaf, and the trees after it; a node with its children, and the trees after it
pub data Forest : Type 0 where
  empty : Forest
  leaf : SyntaxKind → List ℕ → Forest → Forest
  node : SyntaxKind → Forest → Forest → Forest

-- two forests, one after the other
abbrev pub join : Forest → Forest → Forest
join empty g = g
join (leaf k t f) g = leaf k t (join f g)
join (node k c f) g = node k c (join f g)

-- how many trees the forest has
abbrev pub tree_count : Forest → ℕ
tree_count empty = 0
tree_count (leaf k t f) = suc (tree_count f)
tree_count (node k c f) = suc (tree_count f)

-- the first n trees
abbrev pub first_trees : ℕ → Forest → Forest
first_trees zero f = empty
first_trees (suc n) empty = empty
first_trees (suc n) (leaf k t f) = leaf k t (first_trees n f)
first_trees (suc n) (node k c f) = node k c (first_trees n f)

-- the trees after the first n
abbrev pub trees_after : ℕ → Forest → Forest
trees_after zero f = f
trees_after (suc n) empty = empty
trees_after (suc n) (leaf k t f) = trees_after n f
trees_after (suc n) (node k c f) = trees_after n f

-- the texts of the leaves, joined
abbrev pub text_of : Forest → List ℕ
text_of empty = []
text_of (leaf k t f) = t ++ text_of f
text_of (node k c f) = text_of c ++ text_of f

-- how many elements there are, at every depth
abbrev pub element_count : Forest → ℕ
element_count empty = 0
element_count (leaf k t f) = suc (element_count f)
element_count (node k c f) = suc (element_count c + element_count f)

-- the leaves, from left to right
abbrev pub leaves_of : Forest → List (SyntaxKind × List ℕ)
leaves_of empty = []
leaves_of (leaf k t f) = (k, t) ∷ leaves_of f
leaves_of (node k c f) = leaves_of c ++ leaves_of f

-- the text of each leaf is UTF-8
abbrev pub HasText : Forest → Type 0
HasText empty = Unit {0}
HasText (leaf k t f) = IsUtf8 t × HasText f
HasText (node k c f) = HasText c × HasText f
