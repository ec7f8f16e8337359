use Rattle.rnix_reader.specs.{State.state, Holds.{IsGoing, work}}
use Rattle.rnix_reader.proofs.reading.read_all.Given as goal

abbrev pub invariant-loop-mark : goal.invariant-loop-mark
invariant-loop-mark g l = IsGoing (g.T.Turns.counted l.turns) (state l.initial.p).rest (state l.p) l.names

abbrev pub decreases-loop-mark : goal.decreases-loop-mark
decreases-loop-mark g l = work (state l.p)
