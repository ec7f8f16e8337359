use Rattle.{std.proofs.Common.{◌≡◌, take, map}, rnix_grammar.specs.Fault.fault_of}
use Rattle.rnix.proofs.root.copies.Given as goal

abbrev pub invariant-loop-error : goal.invariant-loop-error
invariant-loop-error l = map fault_of l.copies.items ≡ map fault_of (take l.error-index l.errors)
