use Rattle.std.proofs.Common.{◌≡◌, take}
use Rattle.rnix_c.specs.Diagnostics.{said, said_of}
use Rattle.rnix_c.proofs.diagnostics.said_of.Given as goal

abbrev pub invariant-loop-diagnostic : goal.invariant-loop-diagnostic
invariant-loop-diagnostic l =
    said l.made.records.items l.made.notes.items l.made.texts.items ≡ said_of l.text (take l.diagnostic-index l.diagnostics)
