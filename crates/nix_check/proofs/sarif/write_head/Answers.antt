use Rattle.std.proofs.{KnownBytes.Appends-trans, lemmas.Result.on_ok_weaker}
use Rattle.nix_check.proofs.AppendedPieces.{six}
use Rattle.nix_check.proofs.sarif.write_head.Goals as goal

pub returns : goal.returns
returns g c =
    on_ok_weaker c.write_all-4.result
    (λ e. six (g.W.Write.contents c.args.out.now) (g.W.Write.contents c.write_all.new.self) (g.W.Write.contents c.write_json_string.new.out)
    (g.W.Write.contents c.write_all-2.new.self) (g.W.Write.contents c.write_json_string-2.new.out) (g.W.Write.contents c.write_rules.new.out)
    (g.W.Write.contents c.write_all-4.new.self) _ _ _ _ _ _
    c.in_ok-write_all.ensures.bytes c.in_ok-write_json_string.ensures c.in_ok-write_all-2.ensures.bytes c.in_ok-write_json_string-2.ensures
    (Appends-trans (g.W.Write.contents c.write_json_string-2.new.out) (g.W.Write.contents c.write_all-3.new.self)
    (g.W.Write.contents c.write_rules.new.out) _ _ c.in_ok-write_all-3.ensures.bytes c.in_ok-write_rules.ensures) e)
    c.write_all-4.ensures.bytes
