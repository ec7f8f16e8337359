use Rattle.{std.{proofs.Common.{◌∙◌, ap, sym}, specs.List.{fold}}, rnix_base.specs.Value.without_escapes}
use Rattle.rnix_base.proofs.LetterLemmas.{without_escapes-nil}
use Rattle.rnix_base.proofs.value.last_letter.Goals as goal

pub returns : goal.returns
returns c = sym (c.loop-letter.invariant ∙ ap (λ t. fold (λ before b. b) c.loop-letter.last (without_escapes t)) c.in_default.ensures
    ∙ ap (fold (λ before b. b) c.loop-letter.last) without_escapes-nil)
