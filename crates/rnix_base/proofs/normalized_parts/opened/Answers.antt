use Rattle.rnix_base.proofs.NormalLemmas.{opened_set}
use Rattle.rnix_base.proofs.normalized_parts.opened.Goals as goal

pub returns : goal.returns
returns g c =
    opened_set c.args.parts.items c.in-Some-Literal.text c.in-Some.rest
    (rw (c.deref.ensures.value, c.in-Some-Literal.field-0-is) at c.in-Some-Literal.ensures.value) c.in-Some.ensures.0 c.in-Some.ensures.1 c.if-is_empty.ensures
