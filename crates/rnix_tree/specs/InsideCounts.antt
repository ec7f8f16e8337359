-- How many elements are inside others.
use Rattle.std.specs.Prelude.{ℕ, suc, ◌+◌, List, [], ◌∷◌, Option, Some, None}
use Rattle.rnix_green.specs.Tree.{Located, item_of}
use Rattle.rnix_green.specs.Walk.{Spot}

-- how many elements are inside an element
abbrev pub inside_count : Located → ℕ
inside_count e = (item_of e).below

-- how many elements some nodes and all that is inside them are
abbrev pub nodes_count : List Located → ℕ
nodes_count [] = 0
nodes_count (e ∷ es) = suc (inside_count e) + nodes_count es

-- the same for the elements of a walk
abbrev pub spots_count : List Spot → ℕ
spots_count [] = 0
spots_count (s ∷ ss) = suc (inside_count s.1) + spots_count ss

-- the same for one element, if there is one
abbrev pub count_if : Option Located → ℕ
count_if None = 0
count_if (Some e) = suc (inside_count e)
