-- The elements around an element, next to it and inside it. Elements are identified by their numbers in preorder.
use Rattle.std.specs.Prelude.{◌≡◌, ◌<◌, ◌≤◌, ◌+◌, ℕ, length, Option, Some, None, true, false}
use Rattle.rnix_green.specs.Tree.{Tree, items_of, item, Located, item_of}

-- the first number above n of which P holds
abbrev pub IsFirst : (ℕ → Type 0) → ℕ → Option ℕ → Type 0
IsFirst P n None = (m : ℕ) → n < m → ¬ P m
IsFirst P n (Some r) = (n < r) × P r × ((m : ℕ) → n < m → m < r → ¬ P m)

-- the last number below n of which P holds
abbrev pub IsLast : (ℕ → Type 0) → ℕ → Option ℕ → Type 0
IsLast P n None = (m : ℕ) → m < n → ¬ P m
IsLast P n (Some r) = (r < n) × P r × ((m : ℕ) → r < m → m < n → ¬ P m)

-- the element of a tree whose number satisfies P; if there is no such element, P holds of `None`
abbrev pub IsThat : Tree → (Option ℕ → Type 0) → Option Located → Type 0
IsThat t P None = P None
IsThat t P (Some r) = (r.tree ≡ t) × P (Some r.number)

-- the element with a number, if there is a number
abbrev pub located : Tree → Option ℕ → Option Located
located t None = None
located t (Some n) = Some (record { tree = t; number = n })

-- the element's parent
abbrev pub parent_of : Located → Option Located
parent_of e = located e.tree (item_of e).parent

-- the number is that of a node
pub record IsNodeIn (t : Tree) (m : ℕ) : Type 0 where
  pub is_there : m < length (items_of t)
  pub is_node : (item t m).is_node ≡ true

-- the number is that of a token
pub record IsTokenIn (t : Tree) (m : ℕ) : Type 0 where
  pub is_there : m < length (items_of t)
  pub is_token : (item t m).is_node ≡ false

-- the number is that of a child of e
pub record IsChild (e : Located) (m : ℕ) : Type 0 where
  pub is_there : m < length (items_of e.tree)
  pub parent : (item e.tree m).parent ≡ Some e.number

-- the number is that of an element with the same parent as e; the root is alone
pub record IsSibling (e : Located) (m : ℕ) : Type 0 where
  pub is_there : m < length (items_of e.tree)
  pub parent : (item e.tree m).parent ≡ (item_of e).parent

-- the number is that of a token inside e
pub record IsTokenInside (e : Located) (m : ℕ) : Type 0 where
  pub low : e.number ≤ m
  pub high : m ≤ e.number + (item_of e).below
  pub token : IsTokenIn e.tree m

-- the number is that of a child of e that is a node
abbrev pub IsChildNode : Located → ℕ → Type 0
IsChildNode e m = IsChild e m × IsNodeIn e.tree m

-- the number is that of a node with the same parent as e
abbrev pub IsSiblingNode : Located → ℕ → Type 0
IsSiblingNode e m = IsSibling e m × IsNodeIn e.tree m

-- the first child of e
abbrev pub IsFirstChild : Located → Option Located → Type 0
IsFirstChild e = IsThat e.tree (IsFirst (IsChild e) e.number)

-- the last child of e
abbrev pub IsLastChild : Located → Option Located → Type 0
IsLastChild e = IsThat e.tree (IsLast (IsChild e) (length (items_of e.tree)))

-- the first node among the children of e
abbrev pub IsFirstChildNode : Located → Option Located → Type 0
IsFirstChildNode e = IsThat e.tree (IsFirst (IsChildNode e) e.number)

-- the last node among the children of e
abbrev pub IsLastChildNode : Located → Option Located → Type 0
IsLastChildNode e = IsThat e.tree (IsLast (IsChildNode e) (length (items_of e.tree)))

-- the next element after e with the same parent
abbrev pub IsNextSibling : Located → Option Located → Type 0
IsNextSibling e = IsThat e.tree (IsFirst (IsSibling e) e.number)

-- the last element before e with the same parent
abbrev pub IsPrevSibling : Located → Option Located → Type 0
IsPrevSibling e = IsThat e.tree (IsLast (IsSibling e) e.number)

-- the next node after e with the same parent
abbrev pub IsNextSiblingNode : Located → Option Located → Type 0
IsNextSiblingNode e = IsThat e.tree (IsFirst (IsSiblingNode e) e.number)

-- the last node before e with the same parent
abbrev pub IsPrevSiblingNode : Located → Option Located → Type 0
IsPrevSiblingNode e = IsThat e.tree (IsLast (IsSiblingNode e) e.number)

-- the first token inside e
abbrev pub IsFirstToken : Located → Option Located → Type 0
IsFirstToken e = IsThat e.tree (IsFirst (IsTokenInside e) e.number)

-- the last token inside e
abbrev pub IsLastToken : Located → Option Located → Type 0
IsLastToken e = IsThat e.tree (IsLast (IsTokenInside e) (length (items_of e.tree)))

-- the next token of the tree after e in preorder
abbrev pub IsNextToken : Located → Option Located → Type 0
IsNextToken e = IsThat e.tree (IsFirst (IsTokenIn e.tree) e.number)

-- the last token of the tree before e in preorder
abbrev pub IsPrevToken : Located → Option Located → Type 0
IsPrevToken e = IsThat e.tree (IsLast (IsTokenIn e.tree) e.number)
