-- The elements of a tree as they are written for C.
use Rattle.std.specs.Prelude.{◌≤◌, ℕ, ◌+◌, ◌*◌, ◌-◌, ◌^◌, cond, List, length, map, Option, Some, None}
use Rattle.rnix_kinds.specs.SyntaxKind.{discriminant_of}
use Rattle.rnix_green.specs.Tree.{Tree, Item, items_of}
use Rattle.rnix_c.specs.declared.elements.RnixElement.{RnixElement}

-- the number of an element, or 2 ^ 64 - 1 if there is none
abbrev pub number_or_none : Option ℕ → ℕ
number_or_none None = 2 ^ 64 - 1
number_or_none (Some number) = number

-- what is written for an element
abbrev pub element_of : Item → RnixElement
element_of i = record {
  start = i.start;
  end = i.end;
  parent = number_or_none i.parent;
  inside = i.below;
  kind = discriminant_of i.kind;
  is_token = cond i.is_node 0 1;
}

-- what is written for a tree: each element, in preorder
abbrev pub elements_of : Tree → List RnixElement
elements_of tree = map element_of (items_of tree)

-- a tree has at most three elements for each byte of its text, and three more
abbrev pub AreFew : List ℕ → Tree → Type 0
AreFew text tree = length (elements_of tree) ≤ 3 * length text + 3
