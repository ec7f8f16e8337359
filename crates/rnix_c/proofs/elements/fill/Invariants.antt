use Rattle.std.proofs.Common.{◌≡◌, take}
use Rattle.rnix_c.specs.{Answers.{filled}, Elements.{elements_of}}
use Rattle.rnix_c.proofs.elements.fill.Given as goal

abbrev pub invariant-loop-number : goal.invariant-loop-number
invariant-loop-number l = l.room ≡ filled (take l.number (elements_of l.green)) l.initial.room
