use Rattle.std.proofs.{lemmas.Result.on_ok_weaker}
use Rattle.std.specs.Prelude.{string_bytes}
use Rattle.nix_format.proofs.FinishedTexts.{same_diff, other_diff}
use Rattle.nix_format.proofs.file.write_diff.Goals as goal

pub returns-then-is_same : goal.returns-then-is_same
returns-then-is_same g c =
    same_diff c.args.is_same c.args.change.old.now c.args.change.new.now (g.W.Write.contents c.args.out.now) c.if-is_same.true

pub returns : goal.returns
returns g c =
    on_ok_weaker c.write_all.result
    (λ e. other_diff c.args.is_same c.args.change.old.now c.args.change.new.now (string_bytes c.in_ok-diff.diff) _
    (g.W.Write.contents c.args.out.now) (g.W.Write.contents c.write_all.new.self) c.if-is_same.false c.in_ok-diff.ensures c.as_bytes.ensures.value e)
    c.write_all.ensures.bytes
