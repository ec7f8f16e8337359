-- How deep an element is in its tree, and how deep a tree is.
use Rattle.std.specs.Prelude.{ℕ, suc, ◌+◌, ◌≤◌, max, Option, Some, None}
use Rattle.rnix_green.specs.Forest.{Forest, empty, leaf, node}
use Rattle.rnix_green.specs.Tree.{Tree, item, forest_of}
use Rattle.rnix_grammar.specs.Tables.{depth_limit}

-- how many an element, if there is one, and the nodes around it are
pub data AreAround (t : Tree) : Option ℕ → ℕ → Type 0 where
  none : AreAround t None 0
  one : (n d : ℕ) → AreAround t (item t n).parent d → AreAround t (Some n) (suc d)

-- how many elements at most are inside one another in a forest
abbrev pub height : Forest → ℕ
height empty = 0
height (leaf k t f) = max 1 (height f)
height (node k c f) = max (suc (height c)) (height f)

-- in place of the node of a number in t, the tree u nests no deeper than the limit
pub record FitsAt (t : Tree) (n : ℕ) (u : Tree) : Type 0 where
  pub depth : ℕ
  pub around : AreAround t (item t n).parent depth
  pub within : depth + height (forest_of u) ≤ depth_limit
