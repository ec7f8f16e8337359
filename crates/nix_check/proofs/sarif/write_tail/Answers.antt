use Rattle.std.proofs.lemmas.Result.{on_ok_weaker}
use Rattle.nix_check.proofs.AppendedPieces.{three}
use Rattle.nix_check.proofs.sarif.write_tail.Goals as goal

pub returns : goal.returns
returns g c =
    on_ok_weaker c.write_all-2.result
    (λ e. three (g.W.Write.contents c.args.out.now) (g.W.Write.contents c.write_all.new.self) (g.W.Write.contents c.write_bool.new.out)
    (g.W.Write.contents c.write_all-2.new.self) _ _ _ c.in_ok-write_all.ensures.bytes c.in_ok-write_bool.ensures e) c.write_all-2.ensures.bytes
