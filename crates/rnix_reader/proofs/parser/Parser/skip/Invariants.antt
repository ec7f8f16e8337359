use Rattle.{std.proofs.Common.{◌≡◌, length}, rnix_grammar.specs.UnwantedRun.run_of, rnix_reader.specs.State.{state, items_remaining, skipped}}
use Rattle.rnix_reader.proofs.parser.Parser.skip.Given as goal

abbrev pub invariant-loop-item : goal.invariant-loop-item
invariant-loop-item l =
    (skipped (run_of l.fn.until (items_remaining (state l.self))) (state l.self) ≡ skipped (run_of l.fn.until (items_remaining (state l.initial.self)))
    (state l.initial.self))
    × (l.self.builder.draft.open_nodes ≡ l.initial.self.builder.draft.open_nodes)

abbrev pub decreases-loop-item : goal.decreases-loop-item
decreases-loop-item l = length (items_remaining (state l.self))
