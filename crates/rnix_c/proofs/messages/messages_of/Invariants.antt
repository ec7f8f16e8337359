use Rattle.std.{proofs.Common.{◌≡◌, map, take}, specs.Prelude.{string_bytes}}
use Rattle.{rnix_grammar.specs.Fault.{fault_of}, rnix_c.specs.Messages.{messages_of}}
use Rattle.rnix_c.proofs.messages.messages_of.Given as goal

abbrev pub invariant-loop-error : goal.invariant-loop-error
invariant-loop-error l = string_bytes l.messages ≡ messages_of (map fault_of (take l.error-index l.errors))
