-- How many errors there are.
use Rattle.std.proofs.Common.{◌≡◌, ◌∙◌, List, length, map, sym, ap}
use Rattle.std.proofs.lemmas.List.{length-map}
use Rattle.rnix_grammar.specs.declared.error.ParseError.{ParseError}
use Rattle.rnix_grammar.specs.Fault.{Fault, fault_of}

-- there are as many errors as there are faults
pub same_count : (errors : List ParseError) (faults : List Fault) → map fault_of errors ≡ faults → length errors ≡ length faults
same_count errors faults is = sym (length-map errors fault_of) ∙ ap length is
