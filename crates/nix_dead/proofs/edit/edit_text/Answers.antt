use Rattle.std.proofs.{Common.{◌≡◌, ℕ, List, sym, subst, string_bytes, rules}, lemmas.Result.IfOk-weaker}
use Rattle.nix_dead.specs.{Report.IsReported, Editing.{IsEdited, IsWithout, IsWithErrors, IsRefused}, EditedFiles.IsTextEdited}
use Rattle.nix_dead.proofs.edit.edit_text.Goals as goal

pub returns-then-branch : goal.returns-then-branch
returns-then-branch g c =
    let options = c.args.options in
    let name = c.args.name.now in
    let text = c.args.text.now in
    let start = g.W.Write.contents c.args.out.now in
    let new = g.W.Write.contents c.report.new.out in
    let made = string_bytes c.in-Done.made in
    let without : IsWithout text options made = subst (IsEdited text options) c.in-Done.is c.in_ok-made.ensures in
    IfOk-weaker c.report.result (IsReported options c.display_name.result.now c.as_str-then-branch.result.now start new)
    (IsTextEdited options name text start new)
    (λ status own. IsTextEdited.edited made status without
    (subst (λ (file : List ℕ). IsReported options file made start new status) c.display_name.ensures
    (subst (λ (t : List ℕ). IsReported options c.display_name.result.now t start new status) c.as_str-then-branch.ensures.value own)))
    c.report.ensures

pub returns-in-Done : goal.returns-in-Done
returns-in-Done g c =
    let options = c.args.options in
    let text = c.args.text.now in
    let made = string_bytes c.in-Done.made in
    let without : IsWithout text options made = subst (IsEdited text options) c.in-Done.is c.in_ok-made.ensures in
    IsTextEdited.unwritten made without (search rules) (search rules) (search rules)

pub returns-in-HasErrors : goal.returns-in-HasErrors
returns-in-HasErrors g c =
    let options = c.args.options in
    let name = c.args.name.now in
    let text = c.args.text.now in
    let start = g.W.Write.contents c.args.out.now in
    let new = g.W.Write.contents c.report-in-HasErrors.new.out in
    let faulty : IsWithErrors text = subst (IsEdited text options) c.in-HasErrors.is c.in_ok-made.ensures in
    IfOk-weaker c.report-in-HasErrors.result (IsReported options c.display_name-in-HasErrors.result.now text start new)
    (IsTextEdited options name text start new)
    (λ status own. IsTextEdited.faulty status faulty
    (subst (λ (file : List ℕ). IsReported options file text start new status) c.display_name-in-HasErrors.ensures own))
    c.report-in-HasErrors.ensures

pub returns : goal.returns
returns g c =
    let options = c.args.options in
    let name = c.args.name.now in
    let text = c.args.text.now in
    let start = g.W.Write.contents c.args.out.now in
    let refused : IsRefused text options = subst (IsEdited text options) c.in-Refused.is c.in_ok-made.ensures in
    IfOk-weaker c.refuse_edit.result (λ status. status ≡ 2) (IsTextEdited options name text start start)
    (λ status is. subst (IsTextEdited options name text start start) (sym is) (IsTextEdited.refused refused (search rules))) c.refuse_edit.ensures
