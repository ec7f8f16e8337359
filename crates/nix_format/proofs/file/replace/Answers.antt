use Rattle.std.proofs.{Common.{rules, ◌≡◌, false, subst, sym}, lemmas.Result.IfOk-weaker}
use Rattle.nix_format.specs.declared.file.Outcome.{Outcome}
use Rattle.nix_format.specs.declared.file.Outcome.TheVariants.{Failed}
use Rattle.nix_format.specs.Outcomes.{is_input, IsReplaced, replaced, failed}
use Rattle.nix_format.proofs.file.replace.Goals as goal

pub returns-then-eq : goal.returns-then-eq
returns-then-eq c = replaced

pub returns-in-Ok : goal.returns-in-Ok
returns-in-Ok c = replaced

pub returns-in-Err : goal.returns-in-Err
returns-in-Err c =
    let name = c.args.change.name.now in
    let is_file : is_input name ≡ false = search rules in
    IfOk-weaker c.fail.result (λ (outcome : Outcome). outcome ≡ Failed) (IsReplaced name)
    (λ outcome is. subst (IsReplaced name) (sym is) (failed is_file)) c.fail.ensures
