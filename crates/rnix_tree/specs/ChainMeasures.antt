-- How many elements of a tree are left to a chain of calls, each on what the one before returned: what the measures of loops cite.
use Rattle.std.specs.Prelude.{ℕ, suc, ◌-◌, length, Option, Some, None, option_map}
use Rattle.rnix_green.specs.Tree.{Located, items_of}
use Rattle.rnix_tree.specs.Spots.{located_of}
use Rattle.rnix_tree.specs.declared.element.NodeOrToken.{NodeOrToken}

-- how many elements of its tree come after an element
abbrev pub behind_count : Located → ℕ
behind_count e = length (items_of e.tree) - suc e.number

-- how many elements of its tree come before an element
abbrev pub before_count : Located → ℕ
before_count e = e.number

-- how many elements an element, if there is one, and all that come after it are
abbrev pub behind_if : Option Located → ℕ
behind_if None = 0
behind_if (Some e) = suc (behind_count e)

-- how many elements an element, if there is one, and all that come before it are
abbrev pub before_if : Option Located → ℕ
before_if None = 0
before_if (Some e) = suc (before_count e)

-- the position in the tree of a node or token, if there is one
abbrev pub place_if : Option (NodeOrToken Located Located) → Option Located
place_if element = option_map located_of element
