use Rattle.std.proofs.Common.{subst}
use Rattle.std.proofs.lemmas.Result.{IfOk-weaker}
use Rattle.nix_lints.specs.{Items.IsReported, declared.reported.Reported.Reported}
use Rattle.nix_lints.proofs.ReportedLemmas.{mistake_given}
use Rattle.nix_lints.proofs.reported.Reported.diagnostic.Goals as goal

pub returns-in-Mistakes : goal.returns-in-Mistakes
returns-in-Mistakes c =
    IfOk-weaker c.diagnostic.result _ _
    (λ found gives items are.
    mistake_given items c.in-Mistakes.diagnosis c.diagnostic.new.self c.args.number found gives
    (subst (λ (r : Reported). IsReported items r) c.in-Mistakes.is are))
    c.diagnostic.ensures
