-- How a tree is stored: its elements in preorder, and the whole text.
use Rattle.std.specs.Prelude.{◌≡◌, ◌<◌, ℕ, zero, suc, ◌-◌, List, [], ◌∷◌, length, map, take, drop, cond, Option, Some, None, slice_index_or}
use Rattle.rnix_kinds.specs.declared.kinds.SyntaxKind.{SyntaxKind}
use Rattle.rnix_kinds.specs.declared.kinds.SyntaxKind.TheVariants.{TOKEN_ERROR}
use Rattle.rnix_green.specs.declared.green.Element.{Element}
use Rattle.rnix_green.specs.declared.packed.Packed.{Packed}
use Rattle.rnix_green.specs.Forest.{Forest, empty, leaf, node, text_of, element_count, HasText}
use Rattle.rnix_green.specs.Packed.{limit, packed, len_or_start_in, size_in}
use Rattle.rnix_green.specs.Tree.{Tree, Item, items_from, items_of, forest_of}

-- the data of an element that was decoded
abbrev pub item_from : Element → Item
item_from e = record { kind = e.kind; is_node = e.is_node; start = e.start; end = e.end; parent = e.parent; below = e.below }

-- the number of a parent; 0 if there is none
abbrev pub parent_or_root : Option ℕ → ℕ
parent_or_root None = 0
parent_or_root (Some p) = p

-- the stored parent of the element with a number; the first has none
abbrev pub parent_kept : ℕ → ℕ → Option ℕ
parent_kept zero p = None
parent_kept (suc n) p = Some p

-- the number of elements in a node, itself included; 0 for a token
abbrev pub size_of : Item → ℕ
size_of i = cond i.is_node (suc i.below) 0

-- the stored form of an element: its kind, its start, its parent and its size
abbrev pub kept_of : Item → Packed
kept_of i = packed i.kind i.start (parent_or_root i.parent) (size_of i)

-- the stored elements of a forest, where the first has the given number, start and parent
abbrev pub kept_from : ℕ → ℕ → Option ℕ → Forest → List Packed
kept_from n s p f = map kept_of (items_from n s p f)

-- where the element with a number starts, or the end of the text if there is none
abbrev pub start_at : Tree → ℕ → ℕ
start_at t n = slice_index_or (map (λ i. i.start) (items_of t)) n (length (text_of (forest_of t)))

-- the first trees of a forest, those with n elements in all
abbrev pub first_elements : ℕ → Forest → Forest
first_elements zero f = empty
first_elements (suc n) empty = empty
first_elements (suc n) (leaf k t f) = leaf k t (first_elements n f)
first_elements (suc n) (node k c f) = node k c (first_elements (n - element_count c) f)

-- the trees after those with n elements in all
abbrev pub elements_after : ℕ → Forest → Forest
elements_after zero f = f
elements_after (suc n) empty = empty
elements_after (suc n) (leaf k t f) = elements_after n f
elements_after (suc n) (node k c f) = elements_after (n - element_count c) f

-- one more element in front, of a size and a text; a node takes what is inside it from the trees after it
abbrev pub tree_before : ℕ → SyntaxKind → List ℕ → Forest → Forest
tree_before zero k t f = leaf k t f
tree_before (suc below) k t f = node k (first_elements below f) (elements_after below f)

-- where the first of these elements starts, or the end of the text if there is none
abbrev pub start_of_first : List ℕ → List Packed → ℕ
start_of_first text [] = length text
start_of_first text (e ∷ es) = len_or_start_in e

-- the forest whose elements these are
abbrev pub forest_from : List ℕ → List Packed → Forest
forest_from text [] = empty
forest_from text (e ∷ es) =
    tree_before (size_in e) e.kind (take (start_of_first text es - len_or_start_in e) (drop (len_or_start_in e) text)) (forest_from text es)

-- the tree of a forest of one node
abbrev pub as_tree : Forest → Tree
as_tree (node k c f) = record { kind = k; children = c }
as_tree f = record { kind = TOKEN_ERROR; children = empty }

-- the tree that the elements and the text represent
abbrev pub tree_from : List Packed → List ℕ → Tree
tree_from es text = as_tree (forest_from text es)

-- the elements and the text are those of the tree, and there are fewer of each than the limit
pub record IsKept (t : Tree) (es : List Packed) (text : List ℕ) : Type 0 where
  pub elements : es ≡ kept_from 0 0 None (forest_of t)
  pub text_is : text ≡ text_of (forest_of t)
  pub characters : HasText (forest_of t)
  pub short : length text < limit
  pub few : length es < limit

-- some tree has these elements and this text
abbrev pub AreKept : List Packed → List ℕ → Type 0
AreKept es text = (t : Tree) × IsKept t es text
