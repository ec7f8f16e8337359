use Rattle.std.proofs.Common.{arith}
use Rattle.nix_check.specs.LintFixes.{unchanged}
use Rattle.nix_check.proofs.lint_fixes.apply.Goals as goal

pub loop-init : goal.loop-init
loop-init c = record { linted = c.requires; fixed = unchanged; few = omega arith }
