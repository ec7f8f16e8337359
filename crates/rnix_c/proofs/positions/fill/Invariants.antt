use Rattle.std.proofs.Common.{◌≡◌, take}
use Rattle.rnix_c.specs.{Answers.{filled}, PositionCalls.{positions_of}}
use Rattle.rnix_c.proofs.positions.fill.Given as goal

abbrev pub invariant-loop-number : goal.invariant-loop-number
invariant-loop-number l = l.room ≡ filled (take l.number (positions_of l.index.unit l.index.text l.offsets)) l.initial.room
