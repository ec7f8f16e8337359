use Rattle.std.{proofs.Common.{◌≤◌, subst}, specs.Str.IsCharBoundary}
use Rattle.rnix_edit.proofs.BlankLemmas.{no_blanks}
use Rattle.rnix_edit.proofs.blanks.blanks_before.Goals as goal

pub returns-in-None : goal.returns-in-None
returns-in-None c =
    no_blanks c.args.text.now c.args.offset c.utf8.text
    (subst (λ start. start ≤ c.args.offset → IsCharBoundary c.args.text.now start → ¬ (IsCharBoundary c.args.text.now c.args.offset))
    c.blanks_start-start.ensures c.in-None.ensures.cases)
