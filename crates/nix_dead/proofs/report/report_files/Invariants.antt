use Rattle.std.{proofs.Common.{map, take}, specs.Prelude.string_bytes}
use Rattle.nix_cli.specs.Statuses.{first_status, AreProcessed}
use Rattle.nix_dead.specs.Report.{IsFileReported}
use Rattle.nix_dead.proofs.report.report_files.Given as goal

-- the files so far are reported
abbrev pub invariant-loop-number : goal.invariant-loop-number
invariant-loop-number g l =
    AreProcessed (IsFileReported l.options (g.R.TextReader.texts l.reader)) (first_status l.files.failed) (g.W.Write.contents l.fn.out)
    (map string_bytes (take l.number l.files.names.items)) (g.W.Write.contents l.out) l.status
