use Rattle.std.proofs.Common.{◌∙◌, subst}
use Rattle.nix_lints.specs.{Items.IsReported, declared.reported.Reported.Reported}
use Rattle.nix_lints.proofs.ReportedLemmas.{count_of_mistakes}
use Rattle.nix_lints.proofs.reported.Reported.len.Goals as goal

pub returns-in-Mistakes : goal.returns-in-Mistakes
returns-in-Mistakes c = λ items are.
    c.len.ensures ∙ count_of_mistakes items c.in-Mistakes.diagnosis (subst (λ (r : Reported). IsReported items r) c.in-Mistakes.is are)
