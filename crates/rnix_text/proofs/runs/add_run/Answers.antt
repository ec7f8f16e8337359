use Rattle.std.proofs.Common.{◌∙◌, ◌++◌, ◌∷◌, [], length, ap, arith, subst, sym}
use Rattle.rnix_text.specs.{Runs.AreFilled}
use Rattle.rnix_text.proofs.RunLemmas.{filled_more}
use Rattle.rnix_text.proofs.runs.add_run.Goals as goal

pub returns-clause-filled : goal.returns-clause-filled
returns-clause-filled c =
    let items = c.in_ok-push.ensures.items ∙ ap (λ xs. xs ++ c.args.edit ∷ []) c.new-run.ensures.items in
    subst AreFilled (sym c.in_ok-push-2.ensures.items) (filled_more c.args.runs.now.items c.push.new.self c.requires (omega (arith, ap length items)))
