use Rattle.std.proofs.{lemmas.Result.on_ok_weaker}
use Rattle.nix_format.proofs.FinishedTexts.{check_printed, diff_printed, input_printed, text_printed}
use Rattle.nix_format.proofs.file.write_change.Goals as goal

pub returns-in-Check : goal.returns-in-Check
returns-in-Check g c =
    let change = c.args.change in
    on_ok_weaker c.write_name.result
    (λ e. check_printed c.args.task c.args.is_same change.name.now change.old.now change.new.now (g.W.Write.contents c.args.out.now)
    (g.W.Write.contents c.write_name.new.out) c.in-Check.is e) c.write_name.ensures

pub returns-in-Diff : goal.returns-in-Diff
returns-in-Diff g c =
    let change = c.args.change in
    on_ok_weaker c.write_diff.result
    (λ e. diff_printed c.args.task c.args.is_same change.name.now change.old.now change.new.now (g.W.Write.contents c.args.out.now)
    (g.W.Write.contents c.write_diff.new.out) c.in-Diff.is e) c.write_diff.ensures

pub returns-in-Write : goal.returns-in-Write
returns-in-Write g c =
    let change = c.args.change in
    on_ok_weaker c.write_input.result
    (λ e. input_printed c.args.task c.args.is_same change.name.now change.old.now change.new.now (g.W.Write.contents c.args.out.now)
    (g.W.Write.contents c.write_input.new.out) c.in-Write.is e) c.write_input.ensures

pub returns-in-Print : goal.returns-in-Print
returns-in-Print g c =
    let change = c.args.change in
    on_ok_weaker c.write_all.result
    (λ e. text_printed c.args.task c.args.is_same change.name.now change.old.now change.new.now _ (g.W.Write.contents c.args.out.now)
    (g.W.Write.contents c.write_all.new.self) c.in-Print.is c.as_bytes.ensures.value e) c.write_all.ensures.bytes
