-- The current element of a walk, and what is left of it.
use Rattle.std.specs.Prelude.{ℕ, ◌+◌, ◌==◌, ◌<◌, ◌≤◌, nat_lt, List, [], ◌∷◌, ◌++◌, length, map, false, Option, Some, None, if◌then◌else◌}
use Rattle.rnix_green.specs.Forest.{Forest, empty, leaf, node, element_count}
use Rattle.rnix_green.specs.Tree.{Tree, items_of, item, part_at}
use Rattle.rnix_green.specs.Walk.{Step, Event, steps_from, event_at}
use Rattle.rnix_tree.specs.declared.walk.Next.{Next}
use Rattle.rnix_tree.specs.declared.walk.Next.TheVariants.{Enter, Leave, Done}

-- the walk over a forest, numbered from n, from where the element m is entered
abbrev pub from_enter : ℕ → ℕ → Forest → List Step
from_enter m n empty = []
from_enter m n (leaf k t f) = if m == n then steps_from n (leaf k t f) else from_enter m (n + 1) f
from_enter m n (node k c f) =
    if m == n then steps_from n (node k c f)
    else (if nat_lt m (n + 1 + element_count c) then from_enter m (n + 1) c ++ (false, n) ∷ steps_from (n + 1 + element_count c) f
    else from_enter m (n + 1 + element_count c) f)

-- the same from where the element m is left
abbrev pub from_leave : ℕ → ℕ → Forest → List Step
from_leave m n empty = []
from_leave m n (leaf k t f) = if m == n then (false, n) ∷ steps_from (n + 1) f else from_leave m (n + 1) f
from_leave m n (node k c f) =
    if m == n then (false, n) ∷ steps_from (n + 1 + element_count c) f
    else (if nat_lt m (n + 1 + element_count c) then from_leave m (n + 1) c ++ (false, n) ∷ steps_from (n + 1 + element_count c) f
    else from_leave m (n + 1 + element_count c) f)

-- what is left of a walk from a root
abbrev pub steps_remaining : Tree → ℕ → Next → List Step
steps_remaining t root (Enter m) = from_enter m root (part_at record { tree = t; number = root })
steps_remaining t root (Leave m) = from_leave m root (part_at record { tree = t; number = root })
steps_remaining t root Done = []

-- what is left of a walk, as events
abbrev pub events_remaining : Tree → ℕ → Next → List Event
events_remaining t root next = map (event_at t) (steps_remaining t root next)

-- the element is the root or inside it
pub record IsInside (t : Tree) (root m : ℕ) : Type 0 where
  pub low : root ≤ m
  pub high : m < root + 1 + (item t root).below
  pub there : m < length (items_of t)

-- what is done next is inside the root
abbrev pub IsNextWithin : Tree → ℕ → Next → Type 0
IsNextWithin t root (Enter m) = IsInside t root m
IsNextWithin t root (Leave m) = IsInside t root m
IsNextWithin t root Done = Unit {0}

-- the root is an element of the tree, and what is done next is inside the root
pub record IsWithin (t : Tree) (root : ℕ) (next : Next) : Type 0 where
  pub root_there : root < length (items_of t)
  pub next_inside : IsNextWithin t root next

-- the next thing to do, after an element is entered
abbrev pub after_enter : Tree → ℕ → Next
after_enter t m = if nat_lt 0 (item t m).below then Enter (m + 1) else Leave m

-- the next thing to do after an element is left: to enter the element after it, or else to leave its parent
abbrev pub behind : Tree → ℕ → ℕ → Option ℕ → Next
behind t root m None = Done
behind t root m (Some p) =
    if m == root then Done
    else (if nat_lt (m + 1 + (item t m).below) (p + 1 + (item t p).below) then Enter (m + 1 + (item t m).below) else Leave p)

-- the next thing to do after an element is left
abbrev pub after_leave : Tree → ℕ → ℕ → Next
after_leave t root m = behind t root m (item t m).parent

-- the parent of the element m is left next, if it is in the walk
abbrev pub around : ℕ → ℕ → Option ℕ → Next
around root m None = Done
around root m (Some p) = if m == root then Done else Leave p

-- the next thing to do, where what is inside the innermost open element is passed over
abbrev pub after_skip : Tree → ℕ → Next → Next
after_skip t root (Enter m) = around root m (item t m).parent
after_skip t root (Leave m) = Leave m
after_skip t root Done = Done
