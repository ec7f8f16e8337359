-- The elements of a tree as they are written for C in 20 bytes each: their ranges, and their links.
use Rattle.std.specs.Prelude.{◌<◌, ℕ, ◌-◌, ◌^◌, cond, List, length, map, Option, Some, None}
use Rattle.rnix_kinds.specs.SyntaxKind.{discriminant_of}
use Rattle.rnix_green.specs.Tree.{Tree, Item, items_of}
use Rattle.rnix_c.specs.declared.compact.RnixRange.{RnixRange}
use Rattle.rnix_c.specs.declared.compact.RnixLink.{RnixLink}

-- the number of a parent, or 2 ^ 32 - 1 if there is none
abbrev pub parent_or_none : Option ℕ → ℕ
parent_or_none None = 2 ^ 32 - 1
parent_or_none (Some number) = number

-- what is written for an element's range
abbrev pub range_of : Item → RnixRange
range_of i = record { start = i.start; end = i.end }

-- what is written for an element apart from its range
abbrev pub link_of : Item → RnixLink
link_of i = record { parent = parent_or_none i.parent; inside = i.below; kind = discriminant_of i.kind; is_token = cond i.is_node 0 1 }

-- what is written for a tree into the first array: the range of each element, in preorder
abbrev pub ranges_of : Tree → List RnixRange
ranges_of tree = map range_of (items_of tree)

-- what is written for a tree into the second array: the rest of each element, in preorder
abbrev pub links_of : Tree → List RnixLink
links_of tree = map link_of (items_of tree)

-- no element has the number that means no parent
abbrev pub HaveShortNumbers : Tree → Type 0
HaveShortNumbers tree = length (items_of tree) < 2 ^ 32
