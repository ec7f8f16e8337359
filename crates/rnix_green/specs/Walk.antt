-- Walks over a tree, as lists of elements and events.
use Rattle.std.specs.Prelude.{ℕ, zero, suc, ◌+◌, nat_lt, List, [], ◌∷◌, ◌++◌, map, Bool, true, false, if◌then◌else◌}
use Rattle.std.specs.Coded.{Coded, coded_list, coded×, coded_bool}
use Rattle.rnix_green.specs.Forest.{Forest, empty, leaf, node, element_count}
use Rattle.rnix_green.specs.PreorderNumbers.{tree_numbers}
use Rattle.rnix_green.specs.Tree.{Tree, item, item_of, Located, located_code, part_at, children_in}

-- an element as a walk yields it: whether it is a node, and its position in the tree
abbrev pub Spot : Type 0
Spot = Bool × Located

-- an element of a walk encoded as lists and numbers
abbrev pub spot_code : Coded Spot
spot_code = coded× coded_bool located_code

-- the elements of a walk encoded as lists and numbers
abbrev pub spots_code : Coded (List Spot)
spots_code = coded_list spot_code

-- the element with a number
abbrev pub spot_at : Tree → ℕ → Spot
spot_at t n = ((item t n).is_node, record { tree = t; number = n })

-- the children of an element, in order
abbrev pub children_of : Located → List Spot
children_of e = map (spot_at e.tree) (tree_numbers (e.number + 1) (children_in (part_at e)))

-- an element is entered or left
abbrev pub Step : Type 0
Step = Bool × ℕ

-- each element of a forest is entered, then what is inside it is walked, then it is left
abbrev pub steps_from : ℕ → Forest → List Step
steps_from n empty = []
steps_from n (leaf k t f) = (true, n) ∷ (false, n) ∷ steps_from (n + 1) f
steps_from n (node k c f) = (true, n) ∷ (steps_from (n + 1) c ++ (false, n) ∷ steps_from (n + 1 + element_count c) f)

-- an element that is entered or left, as a walk yields it
abbrev pub Event : Type 0
Event = Bool × Spot

-- the events of a walk encoded as lists and numbers
abbrev pub events_code : Coded (List Event)
events_code = coded_list (coded× coded_bool spot_code)

-- the event of a step
abbrev pub event_at : Tree → Step → Event
event_at t step = (step.0, spot_at t step.1)

-- the walk over an element and what is inside it
abbrev pub preorder_of : Located → List Event
preorder_of e = map (event_at e.tree) (steps_from e.number (part_at e))

-- what is left of a walk from where the innermost entered element is left; so many more were entered since
abbrev pub from_leaving : {S : Type 0} → ℕ → List (Bool × S) → List (Bool × S)
from_leaving zero [] = []
from_leaving (suc d) [] = []
from_leaving zero ((true, s) ∷ es) = from_leaving 1 es
from_leaving zero ((false, s) ∷ es) = (false, s) ∷ es
from_leaving (suc d) ((true, s) ∷ es) = from_leaving (suc (suc d)) es
from_leaving (suc d) ((false, s) ∷ es) = from_leaving d es

-- so many numbers, from the first on
abbrev pub counted : ℕ → ℕ → List ℕ
counted n zero = []
counted n (suc k) = n ∷ counted (n + 1) k

-- an element and all that is inside it, in preorder
abbrev pub elements_of : Located → List Spot
elements_of e = map (spot_at e.tree) (counted e.number (1 + (item_of e).below))

-- the nodes among elements
abbrev pub nodes_in : List Spot → List Located
nodes_in [] = []
nodes_in (spot ∷ spots) = if spot.0 then spot.1 ∷ nodes_in spots else nodes_in spots

-- a node is entered or left
abbrev pub NodeEvent : Type 0
NodeEvent = Bool × Located

-- the events of a walk that are those of nodes
abbrev pub node_events : List Event → List NodeEvent
node_events [] = []
node_events (event ∷ events) = if event.1.0 then (event.0, event.1.1) ∷ node_events events else node_events events

-- the elements with numbers below k that are, or contain, the element n, the last one first
abbrev pub holders : Tree → ℕ → ℕ → List Located
holders t n zero = []
holders t n (suc k) = if nat_lt (k + (item t k).below) n then holders t n k else record { tree = t; number = k } ∷ holders t n k

-- the element and the nodes around it, the innermost first
abbrev pub ancestors_of : Located → List Located
ancestors_of e = holders e.tree e.number (e.number + 1)
