use Rattle.std.{proofs.Common.{map, take}, specs.Prelude.string_bytes}
use Rattle.nix_format.specs.Outcomes.{AreFormatted}
use Rattle.nix_format.proofs.report.format_each.Given as goal

-- the files so far are formatted
abbrev pub invariant-loop-number : goal.invariant-loop-number
invariant-loop-number g l =
    AreFormatted l.task (g.R.TextReader.texts l.reader) l.has_headings l.files.failed (g.W.Write.contents l.fn.out)
    (map string_bytes (take l.number l.files.names.items)) (g.W.Write.contents l.out) l.tally
