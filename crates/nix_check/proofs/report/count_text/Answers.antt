use Rattle.std.proofs.Common.{ℕ, subst}
use Rattle.nix_check.specs.PrintedFindings.{IsChecked}
use Rattle.nix_check.proofs.report.count_text.Goals as goal

pub returns : goal.returns
returns g c = (
  c.in_ok-counts.counts,
  subst (λ (earlier : ℕ). IsChecked c.args.style c.args.name.now c.args.text.now earlier (g.W.Write.contents c.args.out.now)
      (g.W.Write.contents c.check_text.new.out) c.in_ok-counts.counts) c.found.ensures c.in_ok-counts.ensures,
  c.with_counts.ensures,
)
