use Rattle.std.proofs.Common.{take}
use Rattle.nix_check.specs.{Listed.Prints, AsText.AreNoteTexts}
use Rattle.nix_check.proofs.text.write_notes.Given as goal

-- the notes so far are printed
abbrev pub invariant-loop-note : goal.invariant-loop-note
invariant-loop-note g l =
    Prints (AreNoteTexts l.is_colored l.source.name.now l.source.text.now (take l.note-index l.notes)) (g.W.Write.contents l.initial.out)
    (g.W.Write.contents l.out)
