use Rattle.std.proofs.Common.{◌∙◌, ◌-◌, nat_lt, ap}
use Rattle.nix_check.specs.declared.tally.Counts.{Counts}
use Rattle.nix_check.proofs.PrintedDiagnostics.{all_printed}
use Rattle.nix_check.proofs.check.write_reported.Goals as goal

pub returns-clause-printed : goal.returns-clause-printed
returns-clause-printed g c = λ items are.
    let source = c.args.source.now in
    all_printed c.args.style source.name.now source.text.now c.args.earlier items _ c.saturating_sub-more.result (g.W.Write.contents c.args.out.now)
    (g.W.Write.contents c.write_first.new.out) (g.W.Write.contents c.write_more.new.out)
    (ap (λ (counts : Counts). nat_lt 0 counts.warnings) (c.counts_of-counts.ensures items are))
    (c.saturating_sub-more.ensures ∙ ap (λ n. n - c.args.style.limit) (c.len.ensures items are)) (c.in_ok-write_first.ensures items are)
    c.in_ok-write_more.ensures
