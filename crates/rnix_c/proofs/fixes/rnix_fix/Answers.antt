use Rattle.std.proofs.Common.{rules, ◌≡◌, to_z, of_z, w64}
use Rattle.rnix_c.proofs.WrittenFixes.{answered}
use Rattle.rnix_c.proofs.fixes.rnix_fix.Goals as goal

pub returns-in-Ok : goal.returns-in-Ok
returns-in-Ok c =
    let same : c.write_fix_in.result ≡ to_z w64 (of_z w64 c.write_fix_in.result) = search rules in
    answered c.in-Ok.text.now c.args.text.now c.write_fix_in.result _ c.args.number c.args.fix.now c.write_fix_in.new.fix c.args.buffer.now
    c.write_fix_in.new.buffer c.in-Ok.ensures.utf8 c.in-Ok.ensures.same same c.write_fix_in.ensures
