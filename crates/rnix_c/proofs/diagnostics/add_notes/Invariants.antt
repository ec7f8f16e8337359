use Rattle.std.proofs.Common.{◌≡◌, List, take}
use Rattle.std.specs.Prelude.{fold}
use Rattle.rnix_c.specs.declared.diagnostics.RnixDiagnostic.{RnixDiagnostic}
use Rattle.rnix_c.specs.Diagnostics.{said, with_note}
use Rattle.rnix_c.proofs.diagnostics.add_notes.Given as goal

abbrev pub invariant-loop-note : goal.invariant-loop-note
invariant-loop-note l =
    (records : List RnixDiagnostic) → said records l.notes.items l.texts.items
    ≡ fold (with_note l.text) (said records l.initial.notes.items l.initial.texts.items) (take l.note-index l.added)
