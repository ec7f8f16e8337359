use Rattle.std.proofs.{Common.{◌≡◌, Bool, true, false, subst, rules}, lemmas.Result.IfOk-weaker}
use Rattle.std.specs.Str.{bytes_eq}
use Rattle.nix_format.specs.Outcomes.{Prints, IsPrinted, IsReplaced, IsFinished, writes, same, changed, written}
use Rattle.nix_format.proofs.file.finish.Goals as goal

pub returns-then-is_same : goal.returns-then-is_same
returns-then-is_same g c =
    let change = c.args.change in
    let start = g.W.Write.contents c.args.out.now in
    let new = g.W.Write.contents c.write_change.new.out in
    let equal : bytes_eq change.new.now change.old.now ≡ true = search rules in
    same equal
    (subst (λ (b : Bool). Prints (IsPrinted c.args.task b change.name.now change.old.now change.new.now) start new) c.if-is_same.true
    c.in_ok-write_change.ensures)

pub returns-then-writes : goal.returns-then-writes
returns-then-writes g c =
    let change = c.args.change in
    let start = g.W.Write.contents c.args.out.now in
    let new = g.W.Write.contents c.write_change.new.out in
    let other : bytes_eq change.new.now change.old.now ≡ false = search rules in
    let writing : writes c.args.task ≡ true = search rules in
    IfOk-weaker c.replace.result (IsReplaced change.name.now) (IsFinished c.args.task change.name.now change.old.now change.new.now start new)
    (λ outcome own. written outcome other writing own
    (subst (λ (b : Bool). Prints (IsPrinted c.args.task b change.name.now change.old.now change.new.now) start new) c.if-is_same.false
    c.in_ok-write_change.ensures)) c.replace.ensures

pub returns : goal.returns
returns g c =
    let change = c.args.change in
    let start = g.W.Write.contents c.args.out.now in
    let new = g.W.Write.contents c.write_change.new.out in
    let other : bytes_eq change.new.now change.old.now ≡ false = search rules in
    let idle : writes c.args.task ≡ false = search rules in
    changed other idle
    (subst (λ (b : Bool). Prints (IsPrinted c.args.task b change.name.now change.old.now change.new.now) start new) c.if-is_same.false
    c.in_ok-write_change.ensures)
