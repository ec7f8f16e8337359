use Rattle.std.proofs.lemmas.Result.{on_ok_weaker}
use Rattle.nix_check.proofs.NotesAsText.{located_printed}
use Rattle.nix_check.proofs.text.write_located.Goals as goal

pub returns : goal.returns
returns g c =
    let source = c.args.source.now in
    on_ok_weaker c.write_excerpt.result
    (λ e. located_printed c.args.is_colored source.name.now source.text.now c.args.message.now c.args.range.start c.start.result
    (g.W.Write.contents c.args.out.now) (g.W.Write.contents c.write_source_location.new.out) (g.W.Write.contents c.write_message.new.out)
    (g.W.Write.contents c.write_excerpt.new.out) c.start.ensures c.in_ok-write_source_location.ensures c.in_ok-write_message.ensures e) c.write_excerpt.ensures
