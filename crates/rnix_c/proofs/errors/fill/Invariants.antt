use Rattle.std.proofs.Common.{◌≡◌, map, take}
use Rattle.{rnix_grammar.specs.Fault.{fault_of}, rnix_c.specs.{Answers.{filled}, Errors.{errors_of}}}
use Rattle.rnix_c.proofs.errors.fill.Given as goal

abbrev pub invariant-loop-number : goal.invariant-loop-number
invariant-loop-number l = l.room ≡ filled (take l.number (errors_of (map fault_of l.errors))) l.initial.room
