use Rattle.std.proofs.{lemmas.Result.on_ok_weaker}
use Rattle.nix_cli.proofs.AppendLemmas.{SomeAppended, more_appended}
use Rattle.nix_cli.proofs.excerpt.write_excerpt.Goals as goal

pub returns : goal.returns
returns g c =
    let start = g.W.Write.contents c.args.out.now in
    let first = g.W.Write.contents c.write_all.new.self in
    let second = g.W.Write.contents c.write_all-2.new.self in
    let third = g.W.Write.contents c.write_letters.new.out in
    let fourth = g.W.Write.contents c.write_all-3.new.self in
    let fifth = g.W.Write.contents c.write_all-4.new.self in
    let sixth = g.W.Write.contents c.write_spaces.new.out in
    let seventh = g.W.Write.contents c.write_carets.new.out in
    let last = g.W.Write.contents c.write_all-5.new.self in
    let one : SomeAppended start first = (_, c.in_ok-write_all.ensures.bytes) in
    let two = more_appended start first second _ one c.in_ok-write_all-2.ensures.bytes in
    let three = more_appended start second third _ two c.in_ok-write_letters.ensures in
    let four = more_appended start third fourth _ three c.in_ok-write_all-3.ensures.bytes in
    let five = more_appended start fourth fifth _ four c.in_ok-write_all-4.ensures.bytes in
    let six = more_appended start fifth sixth _ five c.in_ok-write_spaces.ensures in
    let seven = more_appended start sixth seventh _ six c.in_ok-write_carets.ensures in
    on_ok_weaker c.write_all-5.result (λ e. more_appended start seventh last _ seven e) c.write_all-5.ensures.bytes
