use Rattle.std.proofs.Common.{◌≡◌, ℕ, List, sym, subst, string_bytes, map, rules}
use Rattle.nix_check.specs.LintFixes.{IsLintFixed, unchanged}
use Rattle.nix_check.proofs.lint_fixes.lint_fixed.Goals as goal

pub returns-in_ok-text-in-None : goal.returns-in_ok-text-in-None
returns-in_ok-text-in-None c =
    let same : string_bytes c.in_ok-text-in-None.text ≡ c.args.text.now = search rules in
    subst (λ (t : List ℕ). IsLintFixed (map string_bytes c.args.disabled.now) c.args.text.now 0 t) (sym same) unchanged
