use Rattle.std.proofs.{Common.{List, subst}, lemmas.Result.on_ok_weaker}
use Rattle.nix_diagnostics.specs.declared.notes.Note.{Note}
use Rattle.nix_check.{specs.{Listed.Prints, AsText.AreNoteTexts}, proofs.NotesAsText.text_printed}
use Rattle.nix_check.proofs.text.write_text.Goals as goal

pub returns : goal.returns
returns g c =
    let third = g.W.Write.contents c.write_excerpt.new.out in
    let new = g.W.Write.contents c.write_notes.new.out in
    let source = c.args.source.now in
    on_ok_weaker c.write_notes.result
    (λ e. text_printed c.args.is_colored source.name.now source.text.now c.args.diagnostic.now c.severity-severity.result c.as_str.result.now
    c.start-start.result
    (g.W.Write.contents c.args.out.now) (g.W.Write.contents c.write_source_location.new.out) (g.W.Write.contents c.write_severe.new.out) third new
    c.severity-severity.ensures c.as_str.ensures.value c.start-start.ensures c.in_ok-write_source_location.ensures c.in_ok-write_severe.ensures
    c.in_ok-write_excerpt.ensures
    (subst (λ (notes : List Note). Prints (AreNoteTexts c.args.is_colored source.name.now source.text.now notes) third new) c.deref.ensures.value e))
    c.write_notes.ensures
