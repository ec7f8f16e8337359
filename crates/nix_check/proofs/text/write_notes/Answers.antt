use Rattle.std.proofs.Common.{ℕ, List, subst}
use Rattle.nix_diagnostics.specs.declared.notes.Note.{Note}
use Rattle.nix_check.{specs.{Listed.Prints, AsText.IsNoteText}, proofs.ListedPieces.{none_printed, one_printed}}
use Rattle.nix_check.proofs.text.write_notes.Goals as goal

pub loop-note-init : goal.loop-note-init
loop-note-init g c =
    none_printed (λ (number : ℕ) (note : Note) (piece : List ℕ). IsNoteText c.args.is_colored c.args.source.now.name.now c.args.source.now.text.now note piece)
    0 (g.W.Write.contents c.args.out.now)

pub loop-note-preserved : goal.loop-note-preserved
loop-note-preserved g c =
    one_printed (λ (number : ℕ) (note : Note) (piece : List ℕ). IsNoteText c.args.is_colored c.args.source.now.name.now c.args.source.now.text.now note piece)
    0 c.args.notes.now c.loop-note.note-index c.note-item.result (g.W.Write.contents c.args.out.now) (g.W.Write.contents c.loop-note.out)
    (g.W.Write.contents c.write_note.new.out) c.loop-note-test.true c.loop-note.invariant
    (subst (λ (note : Note).
    Prints (IsNoteText c.args.is_colored c.args.source.now.name.now c.args.source.now.text.now note) (g.W.Write.contents c.loop-note.out)
    (g.W.Write.contents c.write_note.new.out)) c.note-item.is c.in_ok-write_note.ensures)
