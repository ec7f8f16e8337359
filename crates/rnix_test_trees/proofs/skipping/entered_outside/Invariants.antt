use Rattle.{std.proofs.Common.length, rnix_green.specs.Walk.node_events}
use Rattle.rnix_test_trees.proofs.skipping.entered_outside.Given as goal

abbrev pub decreases-loop-event : goal.decreases-loop-event
decreases-loop-event l = length (node_events l.walk)
