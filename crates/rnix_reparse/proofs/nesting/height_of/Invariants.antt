use Rattle.std.proofs.Common.{◌≡◌, ◌+◌, ◌<◌, ◌^◌}
use Rattle.rnix_green.specs.Tree.{part_at}
use Rattle.rnix_tree.specs.Walked.{entered_in, IsNested}
use Rattle.rnix_reparse.specs.TreeHeight.{height}
use Rattle.rnix_reparse.proofs.WalkHeights.{highest}
use Rattle.rnix_reparse.proofs.nesting.height_of.Given as goal

abbrev pub invariant-loop-event : goal.invariant-loop-event
invariant-loop-event l =
    (highest l.depth l.highest l.event-iterator ≡ height (part_at l.node))
    × (l.depth + entered_in l.event-iterator < 2 ^ 64) × IsNested l.depth l.event-iterator
