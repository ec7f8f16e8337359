use Rattle.std.{proofs.Common.{◌≡◌, sym, subst, false, string_bytes}, specs.Prelude.IfOk}
use Rattle.{rnix_base.specs.Escapes.unescaped, rnix_base.proofs.LineFeedLemmas.no_returns}
use Rattle.rnix_base.proofs.value.quoted_text.Goals as goal

pub returns-else-has_return : goal.returns-else-has_return
returns-else-has_return c =
    subst (λ t. IfOk c.unescape-else-has_return.result (λ value. string_bytes value ≡ unescaped false t))
    (sym (no_returns false c.args.text.now (sym c.if-has_return.ensures))) c.unescape-else-has_return.ensures
