-- What the steps over siblings and tokens give, by numbers.
use Rattle.std.specs.Prelude.{◌≡◌, ◌<◌, ◌≤◌, ◌+◌, ℕ, length, List, [], Option, Some, None}
use Rattle.rnix_green.specs.Tree.{Tree, Located, items_of, item, item_of}
use Rattle.rnix_green.specs.Walk.{ancestors_of}
use Rattle.rnix_green.specs.Relatives.{IsNodeIn, IsTokenIn, IsSiblingNode, IsFirstToken, IsLastToken}
use Rattle.rnix_tree.specs.declared.element.NodeOrToken.{NodeOrToken}
use Rattle.rnix_tree.specs.declared.element.NodeOrToken.TheVariants.{Node, Token}

-- the number, if there is one, is that of an element of the tree
abbrev pub IsThereIfAny : Tree → Option ℕ → Type 0
IsThereIfAny t None = Unit {0}
IsThereIfAny t (Some n) = n < length (items_of t)

-- the number, if there is one, is that of a node
abbrev pub IsNodeIfAny : Tree → Option ℕ → Type 0
IsNodeIfAny t None = Unit {0}
IsNodeIfAny t (Some n) = IsNodeIn t n

-- the number, if there is one, is that of a token
abbrev pub IsTokenIfAny : Tree → Option ℕ → Type 0
IsTokenIfAny t None = Unit {0}
IsTokenIfAny t (Some n) = IsTokenIn t n

-- what is left of a walk outwards
abbrev pub ancestors_if : Tree → Option ℕ → List Located
ancestors_if t None = []
ancestors_if t (Some n) = ancestors_of record { tree = t; number = n }

-- the nodes around an element, the innermost first
abbrev pub parent_ancestors_of : Located → List Located
parent_ancestors_of e = ancestors_if e.tree (item_of e).parent

-- the nodes around an element, after the element itself if it is a node
abbrev pub nodes_around : NodeOrToken Located Located → List Located
nodes_around (Node e) = ancestors_of e
nodes_around (Token e) = parent_ancestors_of e

-- the first token of an element: one inside a node, or the token itself
abbrev pub IsFirstTokenOf : NodeOrToken Located Located → Option Located → Type 0
IsFirstTokenOf (Node e) r = IsFirstToken e r
IsFirstTokenOf (Token e) r = r ≡ Some e

-- the last token of an element
abbrev pub IsLastTokenOf : NodeOrToken Located Located → Option Located → Type 0
IsLastTokenOf (Node e) r = IsLastToken e r
IsLastTokenOf (Token e) r = r ≡ Some e

-- a child of the element p that is the element m or contains it
pub record IsOnWayTo (t : Tree) (p m child : ℕ) : Type 0 where
  pub parent : (item t child).parent ≡ Some p
  pub above : p < child
  pub low : child ≤ m
  pub high : m ≤ child + (item t child).below

-- the first node among an element and its siblings after it
abbrev pub FirstNodeFrom : Tree → Option ℕ → Option ℕ → Type 0
FirstNodeFrom t None r = r ≡ None
FirstNodeFrom t (Some n) None = (m : ℕ) → n ≤ m → ¬ IsSiblingNode record { tree = t; number = n } m
FirstNodeFrom t (Some n) (Some r) =
    (n ≤ r) × IsSiblingNode record { tree = t; number = n } r
    × ((m : ℕ) → n ≤ m → m < r → ¬ IsSiblingNode record { tree = t; number = n } m)

-- the last node among an element and its siblings before it
abbrev pub LastNodeFrom : Tree → Option ℕ → Option ℕ → Type 0
LastNodeFrom t None r = r ≡ None
LastNodeFrom t (Some n) None = (m : ℕ) → m ≤ n → ¬ IsSiblingNode record { tree = t; number = n } m
LastNodeFrom t (Some n) (Some r) =
    (r ≤ n) × IsSiblingNode record { tree = t; number = n } r
    × ((m : ℕ) → r < m → m ≤ n → ¬ IsSiblingNode record { tree = t; number = n } m)

-- the first token among the elements from one number up to another
abbrev pub IsFirstTokenAmong : Tree → ℕ → ℕ → Option ℕ → Type 0
IsFirstTokenAmong t from end None = (m : ℕ) → from ≤ m → m < end → ¬ IsTokenIn t m
IsFirstTokenAmong t from end (Some r) = (from ≤ r) × (r < end) × IsTokenIn t r × ((m : ℕ) → from ≤ m → m < r → ¬ IsTokenIn t m)

-- the last token among the elements from one number up to another
abbrev pub IsLastTokenAmong : Tree → ℕ → ℕ → Option ℕ → Type 0
IsLastTokenAmong t from end None = (m : ℕ) → from ≤ m → m < end → ¬ IsTokenIn t m
IsLastTokenAmong t from end (Some r) = (from ≤ r) × (r < end) × IsTokenIn t r × ((m : ℕ) → r < m → m < end → ¬ IsTokenIn t m)
