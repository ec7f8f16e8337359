-- A tree in which another node replaces a node.
use Rattle.std.specs.Prelude.{◌≡◌, ℕ, ◌+◌, List, ◌++◌, length, take, drop}
use Rattle.rnix_kinds.specs.declared.kinds.SyntaxKind.{SyntaxKind}
use Rattle.rnix_green.specs.Forest.{Forest, empty, node, text_of}
use Rattle.rnix_green.specs.Tree.{Tree, items_of, item, forest_of}
use Rattle.rnix_green.specs.Relatives.{IsNodeIn}
use Rattle.rnix_green.specs.Context.{Context, filled, elements_before}

-- the root has one child, a node
pub record HasOnlyChild (t : Tree) : Type 0 where
  pub child : IsNodeIn t 1
  pub alone : 2 + (item t 1).below ≡ length (items_of t)

-- u is t with the only child of o's root in place of node n
abbrev pub IsSpliced : Tree → ℕ → Tree → Tree → Type 0
IsSpliced t n o u =
    (x : Context) (k : SyntaxKind) (c : Forest) (j : SyntaxKind) (d : Forest) → forest_of t ≡ filled x k c → elements_before x ≡ n
    → o.children ≡ node j d empty
    → forest_of u ≡ filled x j d

-- the text of t with another text in place of that of element n
abbrev pub text_spliced : Tree → ℕ → List ℕ → List ℕ
text_spliced t n text = take (item t n).start (text_of (forest_of t)) ++ (text ++ drop (item t n).end (text_of (forest_of t)))
