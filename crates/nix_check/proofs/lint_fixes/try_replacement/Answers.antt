use Rattle.std.proofs.Common.{◌≡◌, Option, IfSome, subst, rules}
use Rattle.std.specs.Prelude.{string_bytes}
use Rattle.nix_fixes.specs.Fixes.{spliced, new_text}
use Rattle.nix_check.proofs.LintFixLemmas.{is_fix}
use Rattle.nix_check.proofs.lint_fixes.try_replacement.Goals as goal

pub returns-then-branch-clause-fix : goal.returns-then-branch-clause-fix
returns-then-branch-clause-fix c =
    is_fix c.args.old.now c.in-Some-2.new c.args.replacement.now c.as_str.result.now (string_bytes c.in-Some.made) c.requires c.as_str.ensures.value
    (search rules) (search rules) (search rules)
