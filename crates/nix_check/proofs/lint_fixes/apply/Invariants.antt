use Rattle.std.proofs.Common.{◌≤◌, map}
use Rattle.std.specs.Prelude.{string_bytes}
use Rattle.nix_check.specs.LintFixes.{IsLinted, IsLintFixed}
use Rattle.nix_check.proofs.lint_fixes.apply.Given as goal

-- the fixes so far
abbrev pub invariant-loop : goal.invariant-loop
invariant-loop l = record {
  linted : IsLinted (map string_bytes l.disabled) l.progress.linted;
  fixed : IsLintFixed (map string_bytes l.disabled) (string_bytes l.fn.start.made) l.progress.fixes (string_bytes l.progress.linted.made);
  few : l.progress.fixes ≤ l.counter;
}
