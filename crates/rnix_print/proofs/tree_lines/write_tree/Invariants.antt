use Rattle.{std.{proofs.Common.{◌≡◌, ℕ, List, ◌++◌, ◌+◌, ◌<◌, ◌^◌}, specs.Io.KnownBytes.Appends}, rnix_green.specs.Walk.preorder_of}
use Rattle.{rnix_tree.specs.Walked.{entered_in, IsNested}, rnix_print.specs.OutputLines.walk_lines}
use Rattle.rnix_print.proofs.tree_lines.write_tree.Given as goal

-- the lines so far, followed by those of the remaining events, are the lines of all events
abbrev pub invariant-loop-event : goal.invariant-loop-event
invariant-loop-event g l =
    (lines : List ℕ) × Appends (g.W.Write.contents l.initial.out) (g.W.Write.contents l.out) lines
    × (lines ++ walk_lines l.depth l.event-iterator ≡ walk_lines 0 (preorder_of l.node))
    × (l.depth + entered_in l.event-iterator < 2 ^ 64) × IsNested l.depth l.event-iterator
