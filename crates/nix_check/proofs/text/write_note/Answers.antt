use Rattle.std.proofs.lemmas.Result.{on_ok_weaker}
use Rattle.nix_check.proofs.NotesAsText.{located_note, unlocated_note}
use Rattle.nix_check.proofs.text.write_note.Goals as goal

pub returns-in-None : goal.returns-in-None
returns-in-None g c =
    let source = c.args.source.now in
    on_ok_weaker c.write_help.result
    (λ e. unlocated_note c.args.is_colored source.name.now source.text.now c.args.note (g.W.Write.contents c.args.out.now)
    (g.W.Write.contents c.write_help.new.out) c.in-None.is e) c.write_help.ensures

pub returns-in-Some : goal.returns-in-Some
returns-in-Some g c =
    let source = c.args.source.now in
    on_ok_weaker c.write_located.result
    (λ e. located_note c.args.is_colored source.name.now source.text.now c.args.note c.in-Some.range (g.W.Write.contents c.args.out.now)
    (g.W.Write.contents c.write_located.new.out) c.in-Some.is e) c.write_located.ensures
