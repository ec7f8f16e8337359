-- Nodes, tokens and events as the elements of a walk.
use Rattle.std.specs.Prelude.{true, false, Option, Some, None}
use Rattle.rnix_green.specs.Tree.{Located}
use Rattle.rnix_green.specs.Walk.{Spot, Event, NodeEvent}
use Rattle.rnix_tree.specs.declared.element.NodeOrToken.{NodeOrToken}
use Rattle.rnix_tree.specs.declared.element.NodeOrToken.TheVariants.{Node, Token}
use Rattle.rnix_tree.specs.declared.element.WalkEvent.{WalkEvent}
use Rattle.rnix_tree.specs.declared.element.WalkEvent.TheVariants.{Enter, Leave}

-- the spot of an element that is a node or a token
abbrev pub spot_of : NodeOrToken Located Located → Spot
spot_of (Node e) = (true, e)
spot_of (Token e) = (false, e)

-- the node that an element is
abbrev pub node_in : {N T : Type 0} → NodeOrToken N T → Option N
node_in (Node n) = Some n
node_in (Token t) = None

-- the token that an element is
abbrev pub token_in : {N T : Type 0} → NodeOrToken N T → Option T
token_in (Node n) = None
token_in (Token t) = Some t

-- the position of an element in its tree
abbrev pub located_of : NodeOrToken Located Located → Located
located_of (Node e) = e
located_of (Token e) = e

-- the event that a walk yields
abbrev pub event_of : WalkEvent (NodeOrToken Located Located) → Event
event_of (Enter e) = (true, spot_of e)
event_of (Leave e) = (false, spot_of e)

-- the element of an event
abbrev pub element_in : {T : Type 0} → WalkEvent T → T
element_in (Enter e) = e
element_in (Leave e) = e

-- both events enter or both leave, and the relation holds of their elements
abbrev pub MapsEvent : {T U : Type 0} → (T → U → Type 0) → WalkEvent T → WalkEvent U → Type 0
MapsEvent makes (Enter a) (Enter b) = makes a b
MapsEvent makes (Leave a) (Leave b) = makes a b
MapsEvent makes (Enter a) (Leave b) = ⊥
MapsEvent makes (Leave a) (Enter b) = ⊥

-- the event that a walk over nodes yields
abbrev pub node_event_of : WalkEvent Located → NodeEvent
node_event_of (Enter e) = (true, e)
node_event_of (Leave e) = (false, e)
