use Rattle.std.{proofs.Common.{map, take}, specs.Prelude.string_bytes}
use Rattle.nix_check.specs.{Tallies.AreTallied, Fixing.IsFileFixed}
use Rattle.nix_check.proofs.fixing.fix_each.Given as goal

-- the files so far are fixed
abbrev pub invariant-loop-number : goal.invariant-loop-number
invariant-loop-number g l =
    AreTallied (IsFileFixed l.style (g.R.TextReader.texts l.reader)) l.files.failed (g.W.Write.contents l.fn.out)
    (map string_bytes (take l.number l.files.names.items)) (g.W.Write.contents l.out) l.tally
