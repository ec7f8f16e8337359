use Rattle.std.proofs.{Common.subst, lemmas.Result.on_ok_weaker}
use Rattle.std.specs.Io.KnownBytes.{Appends}
use Rattle.rnix_green.specs.declared.range.TextRange.{TextRange}
use Rattle.nix_check.{specs.AsSarif.location, proofs.AppendedPieces.five}
use Rattle.nix_check.proofs.sarif.write_related.Goals as goal

pub returns : goal.returns
returns g c =
    let source = c.args.source.now in
    let first = g.W.Write.contents c.write_all.new.self in
    let second = g.W.Write.contents c.write_location.new.out in
    on_ok_weaker c.write_all-3.result
    (λ e. five (g.W.Write.contents c.args.out.now) first second (g.W.Write.contents c.write_all-2.new.self) (g.W.Write.contents c.write_message.new.out)
    (g.W.Write.contents c.write_all-3.new.self) _ _ _ _ _ c.in_ok-write_all.ensures.bytes
    (subst (λ (range : TextRange). Appends first second (location source.name.now source.text.now range)) c.unwrap_or.ensures c.in_ok-write_location.ensures)
    c.in_ok-write_all-2.ensures.bytes c.in_ok-write_message.ensures e) c.write_all-3.ensures.bytes
