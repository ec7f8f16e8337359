use Rattle.std.proofs.Common.{Option, IfSome, inr, length, refl, subst}
use Rattle.nix_fixes.specs.{declared.fix.Fix.{Fix}, Fixes.{IsFix}}
use Rattle.rnix_c.proofs.fixes.write_fix_of.Goals as goal

pub returns-in-Ok-Some : goal.returns-in-Ok-Some
returns-in-Ok-Some c =
    let errors = length c.args.read.now.faults in
    let is_fix = subst (λ (found : Option Fix). IfSome found (IsFix c.args.text.now errors)) c.in-Ok-Some.field-0-is c.in-Ok-Some.ensures.fix in
    inr (inr (refl, (c.in-Ok-Some.found, is_fix, c.write_fix.ensures.fix, c.write_fix.ensures.text)))
