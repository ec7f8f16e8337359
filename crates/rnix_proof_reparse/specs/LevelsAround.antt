-- The nesting around a node in a tree, and the children of a node between brackets.
use Rattle.std.specs.Prelude.{ℕ, suc, List, if◌then◌else◌}
use Rattle.rnix_kinds.specs.declared.kinds.SyntaxKind.{SyntaxKind}
use Rattle.rnix_green.specs.Forest.{Forest, empty, leaf, join}
use Rattle.rnix_green.specs.Context.{Context, here, behind_leaf, behind_node, inside}
use Rattle.rnix_grammar.specs.Nest.{nests}

-- how many counted expressions are around what is inside a node, in the children of a node of the first kind; the second kind is that of the node itself
abbrev pub levels_around : SyntaxKind → SyntaxKind → Context → ℕ
levels_around p k (here f) = if nests p k then 1 else 0
levels_around p k (behind_leaf j t x) = levels_around p k x
levels_around p k (behind_node j d x) = levels_around p k x
levels_around p k (inside j x f) = if nests p j then suc (levels_around j k x) else levels_around j k x

-- the children of a bracketed node: a token, other trees, and a token
abbrev pub between : SyntaxKind → List ℕ → Forest → SyntaxKind → List ℕ → Forest
between l s c r t = leaf l s (join c (leaf r t empty))
