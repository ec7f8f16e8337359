use Rattle.{std.proofs.Common.{◌≡◌, length}, rnix_reader.specs.State.{state, eaten}}
use Rattle.rnix_reader.proofs.parser.Parser.eat_trivia.Given as goal

abbrev pub invariant-loop-token : goal.invariant-loop-token
invariant-loop-token l = (eaten (state l.self) ≡ eaten (state l.initial.self)) × (l.self.builder.draft.open_nodes ≡ l.initial.self.builder.draft.open_nodes)

abbrev pub decreases-loop-token : goal.decreases-loop-token
decreases-loop-token l = length l.self.cursor
