-- A tree with a node at its root, its elements in preorder, and single elements of it.
use Rattle.std.specs.Prelude.{◌≡◌, ℕ, ◌+◌, ◌-◌, ◌<◌, ◌==◌, nat_lt, take, drop, List, [], ◌∷◌, ◌++◌, length, get_or, Option, Some, None, Bool, true, false, if◌then◌else◌, refl}
use Rattle.std.specs.Coded.{Coded, code_by, coded×, coded_ℕ}
use Rattle.rnix_kinds.specs.declared.kinds.SyntaxKind.{SyntaxKind}
use Rattle.rnix_kinds.specs.declared.kinds.SyntaxKind.TheVariants.{TOKEN_ERROR}
use Rattle.rnix_kinds.specs.contracts.kinds.SyntaxKind.{the_row}
use Rattle.rnix_green.specs.Forest.{Forest, empty, leaf, node, text_of, element_count}
use Rattle.rnix_green.specs.ForestCode.{forest_code}
use Rattle.rnix_green.specs.Range.{Extent}

-- a node at the root, with its children
pub record Tree : Type 0 where
  pub kind : SyntaxKind
  pub children : Forest

-- a tree encoded as lists and numbers
abbrev pub tree_code : Coded Tree
tree_code =
    code_by (SyntaxKind × Forest) (coded× the_row.coded forest_code) (λ t. (t.kind, t.children)) (λ p. record { kind = p.0; children = p.1 }) (λ _. refl)

-- the tree, as a forest of one
abbrev pub forest_of : Tree → Forest
forest_of t = node t.kind t.children empty

-- the data of an element: its kind, its range in bytes, the number of its parent, and how many elements are inside it
pub record Item : Type 0 where
  pub kind : SyntaxKind
  pub is_node : Bool
  pub start : ℕ
  pub end : ℕ
  pub parent : Option ℕ
  pub below : ℕ

-- the elements of a forest in preorder, where the first has the given number, start and parent
abbrev pub items_from : ℕ → ℕ → Option ℕ → Forest → List Item
items_from n s p empty = []
items_from n s p (leaf k t f) =
    record { kind = k; is_node = false; start = s; end = s + length t; parent = p; below = 0 } ∷ items_from (n + 1) (s + length t) p f
items_from n s p (node k c f) =
    record { kind = k; is_node = true; start = s; end = s + length (text_of c); parent = p; below = element_count c }
    ∷ (items_from (n + 1) s (Some n) c ++ items_from (n + 1 + element_count c) (s + length (text_of c)) p f)

-- all elements of a tree, in preorder
abbrev pub items_of : Tree → List Item
items_of t = items_from 0 0 None (forest_of t)

-- the value for an element that is absent
abbrev pub no_item : Item
no_item = record { kind = TOKEN_ERROR; is_node = false; start = 0; end = 0; parent = None; below = 0 }

-- the element with a number
abbrev pub item : Tree → ℕ → Item
item t n = get_or (items_of t) n no_item

-- an element of a tree, by its number in preorder
pub record Located : Type 0 where
  pub tree : Tree
  pub number : ℕ

-- an element encoded as lists and numbers
abbrev pub located_code : Coded Located
located_code = code_by (Tree × ℕ) (coded× tree_code coded_ℕ) (λ e. (e.tree, e.number)) (λ p. record { tree = p.0; number = p.1 }) (λ _. refl)

-- the data of an element
abbrev pub item_of : Located → Item
item_of e = item e.tree e.number

-- an element's range
abbrev pub extent_of : Located → Extent
extent_of e = record { start = (item_of e).start; end = (item_of e).end }

-- an element's text: the part of the tree's text at its range
abbrev pub text_at : Located → List ℕ
text_at e = take ((item_of e).end - (item_of e).start) (drop (item_of e).start (text_of (forest_of e.tree)))

-- the tree has the element
abbrev pub IsThere : Located → Type 0
IsThere e = e.number < length (items_of e.tree)

-- the tree has the element, and it is a node
pub record IsNodeAt (e : Located) : Type 0 where
  pub is_there : e.number < length (items_of e.tree)
  pub is_node : (item_of e).is_node ≡ true

-- the tree has the element, and it is a token
pub record IsTokenAt (e : Located) : Type 0 where
  pub is_there : e.number < length (items_of e.tree)
  pub is_token : (item_of e).is_node ≡ false

-- the element with the number m, with everything inside it, in a forest whose first element has the number n
abbrev pub part_of : ℕ → ℕ → Forest → Forest
part_of m n empty = empty
part_of m n (leaf k t f) = if m == n then leaf k t empty else part_of m (n + 1) f
part_of m n (node k c f) =
    if m == n then node k c empty
    else (if nat_lt m (n + 1 + element_count c) then part_of m (n + 1) c else part_of m (n + 1 + element_count c) f)

-- the element with everything inside it
abbrev pub part_at : Located → Forest
part_at e = part_of e.number 0 (forest_of e.tree)

-- the children of the first tree of a forest
abbrev pub children_in : Forest → Forest
children_in (node k c f) = c
children_in f = empty
