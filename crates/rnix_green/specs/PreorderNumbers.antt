-- The numbers of the trees of a forest, and of elements that are side by side.
use Rattle.std.specs.Prelude.{ℕ, zero, suc, ◌+◌, ◌-◌, List, [], ◌∷◌, drop}
use Rattle.rnix_green.specs.Forest.{Forest, empty, leaf, node, element_count}
use Rattle.rnix_green.specs.Tree.{Item}

-- the numbers of a forest's trees, where the first has the number n
abbrev pub tree_numbers : ℕ → Forest → List ℕ
tree_numbers n empty = []
tree_numbers n (leaf k t f) = n ∷ tree_numbers (n + 1) f
tree_numbers n (node k c f) = n ∷ tree_numbers (n + 1 + element_count c) f

-- the numbers from n on, passing over `skip` elements first and over what is inside each element; `room` is how many elements remain
abbrev pub passed_over : ℕ → ℕ → ℕ → List Item → List ℕ
passed_over n skip room [] = []
passed_over n (suc skip) room (i ∷ is) = passed_over (n + 1) skip (room - 1) is
passed_over n zero zero (i ∷ is) = []
passed_over n zero (suc room) (i ∷ is) = n ∷ passed_over (n + 1) i.below room is

-- the elements side by side from the number n up to the end
abbrev pub siblings_between : List Item → ℕ → ℕ → List ℕ
siblings_between is n end = passed_over n 0 (end - n) (drop n is)
