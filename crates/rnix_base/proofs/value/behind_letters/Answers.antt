use Rattle.{std.proofs.Common.{◌∙◌, ap, sym}, rnix_base.specs.{Indent.indent_behind, Value.without_escapes}}
use Rattle.rnix_base.proofs.LetterLemmas.{without_escapes-nil}
use Rattle.rnix_base.proofs.value.behind_letters.Goals as goal

pub returns : goal.returns
returns c = sym (c.loop-letter.invariant ∙ ap (λ t. indent_behind c.loop-letter.indent (without_escapes t)) c.in_default.ensures
    ∙ ap (indent_behind c.loop-letter.indent) without_escapes-nil)
