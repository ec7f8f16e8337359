use Rattle.std.proofs.{KnownBytes.Appends-trans, lemmas.Result.on_ok_weaker}
use Rattle.nix_check.proofs.text.write_help.Goals as goal

pub returns : goal.returns
returns g c =
    on_ok_weaker c.write_message.result
    (λ e. Appends-trans (g.W.Write.contents c.args.out.now) (g.W.Write.contents c.write_all.new.self) (g.W.Write.contents c.write_message.new.out) _ _
    c.in_ok-write_all.ensures.bytes e) c.write_message.ensures
