use Rattle.std.proofs.Common.{◌∙◌, ◌∷◌, [], take, get_or, ap, sym}
use Rattle.std.proofs.lemmas.{List.{take_more}, Grind.{fold-append}}
use Rattle.std.specs.Prelude.{fold}
use Rattle.rnix_c.specs.Diagnostics.{said, with_note}
use Rattle.rnix_c.proofs.diagnostics.add_notes.Goals as goal

pub loop-note-preserved : goal.loop-note-preserved
loop-note-preserved c = λ records.
    let f = with_note c.args.text.now in
    let start = said records c.args.notes.now.items c.args.texts.now.items in
    let all = c.args.added.now in
    let i = c.loop-note.note-index in
    let own = c.note-item.result in
    c.in_ok-add_note.ensures records ∙ ap (λ before. f before own) (c.loop-note.invariant records)
    ∙ ap (λ note. f (fold f start (take i all)) note) c.note-item.is
    ∙ sym (fold-append f start (take i all) (get_or all i own ∷ []))
    ∙ ap (fold f start) (sym (take_more all i own c.loop-note-test.true))
