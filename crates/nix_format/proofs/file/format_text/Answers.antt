use Rattle.std.proofs.{Common.{ℕ, List, inl, inr, subst}, KnownBytes.Keeps-refl, lemmas.Result.IfOk-weaker}
use Rattle.std.specs.Prelude.{string_bytes}
use Rattle.nix_formatting.specs.{Formatted.IsOutcome, declared.formatting.Formatting.Formatting}
use Rattle.nix_format.specs.Outcomes.{IsFinished, IsTextFormatted, faulty, refused, formatted}
use Rattle.nix_format.proofs.file.format_text.Goals as goal

pub returns-in-Formatted : goal.returns-in-Formatted
returns-in-Formatted g c =
    let name = c.args.name.now in
    let text = c.args.text.now in
    let made = string_bytes c.in-Formatted.made in
    let start = g.W.Write.contents c.args.out.now in
    let new = g.W.Write.contents c.finish_text.new.out in
    IfOk-weaker c.finish_text.result (IsFinished c.args.task name text c.as_str.result.now start new) (IsTextFormatted c.args.task name text start new)
    (λ outcome own. formatted made outcome (inl (subst (λ (f : Formatting). IsOutcome text f) c.in-Formatted.is c.in_ok-made.ensures))
    (subst (λ (bytes : List ℕ). IsFinished c.args.task name text bytes start new outcome) c.as_str.ensures.value own))
    c.finish_text.ensures

pub returns-in-Retokened : goal.returns-in-Retokened
returns-in-Retokened g c =
    let name = c.args.name.now in
    let text = c.args.text.now in
    let made = string_bytes c.in-Retokened.made in
    let start = g.W.Write.contents c.args.out.now in
    let new = g.W.Write.contents c.finish_text-in-Retokened.new.out in
    IfOk-weaker c.finish_text-in-Retokened.result (IsFinished c.args.task name text c.as_str-in-Retokened.result.now start new)
    (IsTextFormatted c.args.task name text start new)
    (λ outcome own. formatted made outcome (inr (subst (λ (f : Formatting). IsOutcome text f) c.in-Retokened.is c.in_ok-made.ensures))
    (subst (λ (bytes : List ℕ). IsFinished c.args.task name text bytes start new outcome) c.as_str-in-Retokened.ensures.value own))
    c.finish_text-in-Retokened.ensures

pub returns-in_ok-write_errors-in-HasErrors : goal.returns-in_ok-write_errors-in-HasErrors
returns-in_ok-write_errors-in-HasErrors g c =
    faulty (subst (λ (f : Formatting). IsOutcome c.args.text.now f) c.in-HasErrors.is c.in_ok-made.ensures)
    (Keeps-refl (g.W.Write.contents c.args.out.now))

pub returns-in_ok-write_refusal-in-Refused : goal.returns-in_ok-write_refusal-in-Refused
returns-in_ok-write_refusal-in-Refused g c =
    refused (subst (λ (f : Formatting). IsOutcome c.args.text.now f) c.in-Refused.is c.in_ok-made.ensures)
    (Keeps-refl (g.W.Write.contents c.args.out.now))
