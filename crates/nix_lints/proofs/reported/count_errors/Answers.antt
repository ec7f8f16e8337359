use Rattle.std.proofs.Common.{arith}
use Rattle.nix_lints.proofs.ReportedLemmas.{all_counted}
use Rattle.nix_lints.proofs.reported.count_errors.Goals as goal

pub returns : goal.returns
returns c =
    all_counted c.args.found.now c.loop-finding.finding-index c.loop-finding.count (omega (arith, c.loop-finding-test.false)) c.loop-finding.invariant.count
