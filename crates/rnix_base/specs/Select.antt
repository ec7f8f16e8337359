-- The children of a node, selected by their kinds.
use Rattle.std.specs.Prelude.{◌≡◌, ℕ, Bool, true, List, [], ◌∷◌, filter, find, slice_get, Option, if◌then◌else◌}
use Rattle.rnix_kinds.specs.declared.kinds.SyntaxKind.{SyntaxKind}
use Rattle.rnix_green.specs.Equality.{same_kind}
use Rattle.rnix_green.specs.Tree.{Located, item_of}
use Rattle.rnix_green.specs.Walk.{Spot, nodes_in, children_of}

-- whether an element has one of the kinds
abbrev pub has_kind : (SyntaxKind → Bool) → Located → Bool
has_kind kinds e = kinds (item_of e).kind

-- an element has this kind
abbrev pub HasKind : SyntaxKind → Located → Type 0
HasKind kind e = same_kind kind (item_of e).kind ≡ true

-- those elements that have one of the kinds
abbrev pub those_of : (SyntaxKind → Bool) → List Located → List Located
those_of kinds elements = filter (has_kind kinds) elements

-- the tokens among elements
abbrev pub tokens_in : List Spot → List Located
tokens_in [] = []
tokens_in (spot ∷ spots) = if spot.0 then tokens_in spots else spot.1 ∷ tokens_in spots

-- the nodes right below a node that have one of the kinds, in order
abbrev pub nodes_of : (SyntaxKind → Bool) → Located → List Located
nodes_of kinds parent = those_of kinds (nodes_in (children_of parent))

-- among these elements, those that have one of the kinds are the nodes right below a node that have one
abbrev pub AreChildren : (SyntaxKind → Bool) → List Located → Located → Type 0
AreChildren kinds elements parent = those_of kinds elements ≡ nodes_of kinds parent

-- the node of a number, from 0, among those right below a node that have one of the kinds
abbrev pub child_of : (SyntaxKind → Bool) → ℕ → Located → Option Located
child_of kinds number parent = slice_get (nodes_of kinds parent) number

-- the first token right below a node that has one of the kinds
abbrev pub token_of : (SyntaxKind → Bool) → Located → Option Located
token_of kinds parent = find (has_kind kinds) (tokens_in (children_of parent))
