-- What a pointer stores of a node, and the node that it finds in a tree.
use Rattle.std.specs.Prelude.{◌≡◌, ◌<◌, ◌==◌, ◌&&◌, ℕ, Bool, true, length, Option, Some, SomeIff}
use Rattle.rnix_kinds.specs.declared.kinds.SyntaxKind.{SyntaxKind}
use Rattle.rnix_green.specs.Equality.{same_kind}
use Rattle.rnix_green.specs.Range.{Extent, bounds_of}
use Rattle.rnix_green.specs.Tree.{Tree, Item, Located, items_of, item_of, extent_of, IsNodeAt}
use Rattle.rnix_tree.specs.declared.pointer.SyntaxNodePtr.{SyntaxNodePtr}

-- a node's number in preorder, its kind and its range
pub record Address : Type 0 where
  pub number : ℕ
  pub kind : SyntaxKind
  pub extent : Extent

-- the address of an element
abbrev pub address_of : Located → Address
address_of e = record { number = e.number; kind = (item_of e).kind; extent = extent_of e }

-- the address that a pointer stores
abbrev pub address_in : SyntaxNodePtr → Address
address_in p = record { number = p.number; kind = p.kind; extent = bounds_of p.range }

-- the element of an address, if the tree has it
abbrev pub located_at : Tree → Address → Located
located_at t a = record { tree = t; number = a.number }

-- the element is a node of the address's kind and range
abbrev pub fits : Item → Address → Bool
fits i a = i.is_node && (same_kind i.kind a.kind && (i.start == a.extent.start && i.end == a.extent.end))

-- the tree has a node of this address
pub record HasNode (t : Tree) (a : Address) : Type 0 where
  pub is_there : a.number < length (items_of t)
  pub is_node : (item_of (located_at t a)).is_node ≡ true
  pub is_same : address_of (located_at t a) ≡ a

-- the element that is found, if there is one, is the node of the address
abbrev pub IsFoundIn : Tree → Address → Option Located → Type 0
IsFoundIn t a found = SomeIff found (HasNode t a) (located_at t a)

-- the node of the tree that the address was taken of is found
abbrev pub FindsItsNode : Tree → Address → Option Located → Type 0
FindsItsNode t a found = (e : Located) → IsNodeAt e → e.tree ≡ t → a ≡ address_of e → found ≡ Some e
