use Rattle.std.proofs.Common.{◌∙◌, sym}
use Rattle.nix_lints.proofs.ReportedLemmas.{finding_worded, no_finding}
use Rattle.nix_lints.proofs.reported.worded.Goals as goal

pub returns-in_ok-said-in-Some : goal.returns-in_ok-said-in-Some
returns-in_ok-said-in-Some c =
    finding_worded c.args.found.now c.args.number c.in-Some.finding c.in_ok-said-in-Some.said (sym c.finding_at.ensures ∙ c.in-Some.is)
    c.in_ok-said-in-Some.ensures

pub returns-in-None : goal.returns-in-None
returns-in-None c = no_finding c.args.found.now c.args.number (sym c.finding_at.ensures ∙ c.in-None.is)
