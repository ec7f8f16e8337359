-- The siblings of an element on one side.
use Rattle.std.specs.Prelude.{◌-◌, ◌==◌, ℕ, zero, suc, length, map, filter, List, [], ◌∷◌, Bool, true, false, Option, Some, None}
use Rattle.rnix_green.specs.Tree.{Tree, Located, items_of, item, item_of}
use Rattle.rnix_green.specs.Walk.{Spot, spot_at, counted}
use Rattle.rnix_green.specs.Relatives.{IsFirst, IsLast, IsSibling}
use Rattle.rnix_tree.specs.declared.siblings.Direction.{Direction}
use Rattle.rnix_tree.specs.declared.siblings.Direction.TheVariants.{Next, Prev}

-- whether two elements with these parents are siblings; the root is alone
abbrev pub same_parent : Option ℕ → Option ℕ → Bool
same_parent None None = true
same_parent (Some p) (Some q) = p == q
same_parent p q = false

-- whether the element with a number has the same parent as e
abbrev pub is_beside : Located → ℕ → Bool
is_beside e m = same_parent (item e.tree m).parent (item_of e).parent

-- the numbers below k, the last first
abbrev pub numbers_below : ℕ → List ℕ
numbers_below zero = []
numbers_below (suc k) = k ∷ numbers_below k

-- an element and its siblings after it, or before it, the nearest first
abbrev pub siblings_of : Direction → Located → List Spot
siblings_of Next e = map (spot_at e.tree) (filter (is_beside e) (counted e.number (length (items_of e.tree) - e.number)))
siblings_of Prev e = map (spot_at e.tree) (filter (is_beside e) (numbers_below (suc e.number)))

-- what is left of a walk along siblings
abbrev pub siblings_if : Direction → Tree → Option ℕ → List Spot
siblings_if direction t None = []
siblings_if direction t (Some n) = siblings_of direction record { tree = t; number = n }

-- the nearest sibling after e, or before it
abbrev pub IsBeside : Direction → Located → Option ℕ → Type 0
IsBeside Next e = IsFirst (IsSibling e) e.number
IsBeside Prev e = IsLast (IsSibling e) e.number

-- how many siblings precede e
abbrev pub index_of : Located → ℕ
index_of e = length (filter (is_beside e) (numbers_below e.number))
