use Rattle.std.proofs.Common.{length, List, Option, IfSome, IfNone, subst}
use Rattle.nix_diagnostics.specs.declared.notes.Note.{Note}
use Rattle.nix_fixes.specs.declared.tried.Tried.{Tried}
use Rattle.nix_fixes.specs.{Fixes.{HaveNoFix, IsFirstFix}, Tries.IsTried}
use Rattle.nix_fixes.proofs.FixLemmas.{tried_fix}
use Rattle.nix_fixes.proofs.fix.fix_of.Goals as goal

pub returns-in-Some-clause-fix : goal.returns-in-Some-clause-fix
returns-in-Some-clause-fix c =
    let text = c.args.text.now in
    let tried = subst (λ (found : Option Tried). IfSome found (IsTried text c.error_count.result)) c.in-Some.is c.in_ok-tried.ensures.tried in
    tried_fix text (length c.args.read.now.faults) c.in-Some.tried (subst (λ n. IsTried text n c.in-Some.tried) c.error_count.ensures tried)

pub returns-in-Some-clause-first : goal.returns-in-Some-clause-first
returns-in-Some-clause-first c =
    let text = c.args.text.now in
    let fix = c.in-Some.tried.fix in
    subst (λ (notes : List Note). IsFirstFix text (length c.args.read.now.faults) notes fix) c.deref.ensures.value
    (subst (λ n. IsFirstFix text n c.deref.result.now fix) c.error_count.ensures
    (subst (λ (found : Option Tried). IfSome found (λ tried. IsFirstFix text c.error_count.result c.deref.result.now tried.fix)) c.in-Some.is
    c.in_ok-tried.ensures.first))

pub returns-in-None-clause-none : goal.returns-in-None-clause-none
returns-in-None-clause-none c =
    let text = c.args.text.now in
    subst (λ (notes : List Note). HaveNoFix text (length c.args.read.now.faults) notes) c.deref.ensures.value
    (subst (λ n. HaveNoFix text n c.deref.result.now) c.error_count.ensures
    (subst (λ (found : Option Tried). IfNone found (HaveNoFix text c.error_count.result c.deref.result.now)) c.in-None.is c.in_ok-tried.ensures.none))
