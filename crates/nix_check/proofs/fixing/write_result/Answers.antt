use Rattle.std.proofs.Common.{ℕ, List, subst, string_bytes}
use Rattle.nix_check.{specs.PrintedFindings.IsChecked, proofs.CheckedFiles.checked_before}
use Rattle.nix_check.proofs.fixing.write_result.Goals as goal

pub returns : goal.returns
returns g c =
    let made = string_bytes c.args.made.now.text in
    let mid = g.W.Write.contents c.write_fixes.new.out in
    let new = g.W.Write.contents c.check_text.new.out in
    let remaining = c.in_ok-remaining.remaining in
    λ text fixed. record {
      made = made;
      fixes = c.args.made.now.fixes;
      fixed = fixed;
      mid = mid;
      line = c.in_ok-write_fixes.ensures;
      checked = checked_before c.args.style c.args.name.now made 0 mid new (g.W.Write.contents c.flush.new.self) remaining
          (subst (λ (t : List ℕ). IsChecked c.args.style c.args.name.now t 0 mid new remaining) c.as_str.ensures.value c.in_ok-remaining.ensures)
          c.flush.ensures.bytes;
    }
