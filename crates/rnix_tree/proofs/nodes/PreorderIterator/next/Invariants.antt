use Rattle.{std.proofs.Common.{◌≡◌, length}, rnix_green.specs.Walk.node_events}
use Rattle.rnix_tree.proofs.nodes.PreorderIterator.next.Given as goal

abbrev pub invariant-loop-event : goal.invariant-loop-event
invariant-loop-event l = node_events l.self-inside.events ≡ node_events l.initial.self-inside.events

abbrev pub decreases-loop-event : goal.decreases-loop-event
decreases-loop-event l = length l.self-inside.events
