use Rattle.std.proofs.Common.{Option, IfSome, map, subst}
use Rattle.std.specs.Prelude.{string_bytes}
use Rattle.nix_check.specs.declared.lint_fixes.Linted.{Linted}
use Rattle.nix_check.specs.LintFixes.{IsLinted, IsLintFix, once_more}
use Rattle.nix_check.proofs.lint_fixes.next.Goals as goal

pub returns-in-Some-clause-fixed : goal.returns-in-Some-clause-fixed
returns-in-Some-clause-fixed c = λ text before.
    let old = c.args.progress.linted in
    let new = c.in-Some.linted in
    once_more c.args.progress.fixes old new before c.requires.linted
    (subst (λ (o : Option Linted). IfSome o (IsLinted (map string_bytes c.args.disabled.now))) c.in-Some.is c.in_ok-linted.ensures.linted)
    (subst (λ (o : Option Linted). IfSome o (IsLintFix old)) c.in-Some.is c.in_ok-linted.ensures.fix)
