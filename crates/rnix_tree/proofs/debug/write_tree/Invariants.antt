use Rattle.{std.{proofs.Common.{◌≡◌, ℕ, List, Option, IfSome, ◌+◌, ◌<◌, ◌^◌}, specs.Fmt.{◌++?◌, IsFlush, HasWrittenStyled}}, rnix_green.specs.Walk.preorder_of}
use Rattle.rnix_tree.specs.Walked.{event_texts, entered_in, IsNested}
use Rattle.rnix_tree.proofs.debug.write_tree.Given as goal

-- the lines so far and those of the events left are those of all events
abbrev pub invariant-loop-event : goal.invariant-loop-event
invariant-loop-event g l =
    (lines : Option (List ℕ)) × (IsFlush l.initial.f → IfSome lines (λ bs. HasWrittenStyled g.W.Write.write_str_gives l.initial.f bs l.f))
    × (lines ++? event_texts l.depth l.event-iterator ≡ event_texts 0 (preorder_of l.node))
    × (l.depth + entered_in l.event-iterator < 2 ^ 64) × IsNested l.depth l.event-iterator
