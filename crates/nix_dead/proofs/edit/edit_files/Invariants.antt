use Rattle.std.{proofs.Common.{map, take}, specs.Prelude.string_bytes}
use Rattle.nix_cli.specs.Statuses.{first_status, AreProcessed}
use Rattle.nix_dead.specs.EditedFiles.{IsFileEdited}
use Rattle.nix_dead.proofs.edit.edit_files.Given as goal

-- the files so far are edited
abbrev pub invariant-loop-number : goal.invariant-loop-number
invariant-loop-number g l =
    AreProcessed (IsFileEdited l.options (g.R.TextReader.texts l.reader)) (first_status l.files.failed) (g.W.Write.contents l.fn.out)
    (map string_bytes (take l.number l.files.names.items)) (g.W.Write.contents l.out) l.status
