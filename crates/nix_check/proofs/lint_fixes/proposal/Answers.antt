use Rattle.std.proofs.Common.{arith}
use Rattle.std.proofs.lemmas.{Bool.Decides.nat_tests}
use Rattle.nix_check.proofs.LintFixLemmas.{proposes}
use Rattle.nix_check.proofs.lint_fixes.proposal.Goals as goal

pub returns-in-Some : goal.returns-in-Some
returns-in-Some c =
    let there = c.in-Some.ensures.lookup in
    proposes c.args.found.now c.args.number c.in-Some.finding.now (grind (arith, nat_tests, there.0)) there.1
