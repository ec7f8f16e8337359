-- A tree with a node in it: what is around the node.
use Rattle.std.specs.Prelude.{ℕ, suc, ◌+◌, List, [], ◌++◌}
use Rattle.rnix_kinds.specs.declared.kinds.SyntaxKind.{SyntaxKind}
use Rattle.rnix_green.specs.Forest.{Forest, leaf, node, text_of, element_count}

-- the node before other trees; after a leaf; after another node; inside another node, which is before other trees
pub data Context : Type 0 where
  here : Forest → Context
  behind_leaf : SyntaxKind → List ℕ → Context → Context
  behind_node : SyntaxKind → Forest → Context → Context
  inside : SyntaxKind → Context → Forest → Context

-- the trees with a node of a kind there
abbrev pub filled : Context → SyntaxKind → Forest → Forest
filled (here f) k c = node k c f
filled (behind_leaf j t x) k c = leaf j t (filled x k c)
filled (behind_node j d x) k c = node j d (filled x k c)
filled (inside j x f) k c = node j (filled x k c) f

-- the text before the node
abbrev pub text_before : Context → List ℕ
text_before (here f) = []
text_before (behind_leaf j t x) = t ++ text_before x
text_before (behind_node j d x) = text_of d ++ text_before x
text_before (inside j x f) = text_before x

-- the text after the node
abbrev pub text_after : Context → List ℕ
text_after (here f) = text_of f
text_after (behind_leaf j t x) = text_after x
text_after (behind_node j d x) = text_after x
text_after (inside j x f) = text_after x ++ text_of f

-- how many elements come before the node in preorder, with the nodes that hold it
abbrev pub elements_before : Context → ℕ
elements_before (here f) = 0
elements_before (behind_leaf j t x) = suc (elements_before x)
elements_before (behind_node j d x) = suc (element_count d + elements_before x)
elements_before (inside j x f) = suc (elements_before x)
