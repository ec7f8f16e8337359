use Rattle.{std.{proofs.Common.{take, map}, specs.Io.KnownBytes.Appends}, rnix_grammar.specs.Fault.fault_of, rnix_print.specs.OutputLines.error_lines}
use Rattle.rnix_print.proofs.error_lines.write_errors.Given as goal

abbrev pub invariant-loop-error : goal.invariant-loop-error
invariant-loop-error g l = Appends (g.W.Write.contents l.initial.out) (g.W.Write.contents l.out) (error_lines (map fault_of (take l.error-index l.errors)))
