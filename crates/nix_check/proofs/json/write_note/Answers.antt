use Rattle.std.proofs.{Common.subst, lemmas.Result.on_ok_weaker}
use Rattle.std.specs.Io.KnownBytes.{Appends}
use Rattle.rnix_green.specs.declared.range.TextRange.{TextRange}
use Rattle.nix_check.{specs.AsJson.message_members, proofs.AppendedPieces.three}
use Rattle.nix_check.proofs.json.write_note.Goals as goal

pub returns : goal.returns
returns g c =
    let first = g.W.Write.contents c.write_all.new.self in
    let second = g.W.Write.contents c.write_message.new.out in
    on_ok_weaker c.write_all-2.result
    (λ e. three (g.W.Write.contents c.args.out.now) first second (g.W.Write.contents c.write_all-2.new.self) _ _ _ c.in_ok-write_all.ensures.bytes
    (subst (λ (range : TextRange). Appends first second (message_members c.args.source.now.text.now range c.args.note.message.now)) c.unwrap_or.ensures
    c.in_ok-write_message.ensures) e) c.write_all-2.ensures.bytes
