use Rattle.std.proofs.Common.{◌-◌, ◌∙◌, length, ap, sym, arith}
use Rattle.std.proofs.lemmas.Option.{slice_get_within, get_or_from_slice_get}
use Rattle.rnix_text.proofs.RunLemmas.{end_is}
use Rattle.rnix_text.proofs.runs.end_of.Goals as goal

pub returns-in-Some : goal.returns-in-Some
returns-in-Some c =
    let e = c.in-Some.edit.now in
    let es = c.args.run.now in
    let inside = slice_get_within es (length es - 1) e (sym c.in-Some.ensures.value) in
    let found = get_or_from_slice_get es (length es - 1) e e (sym c.in-Some.ensures.value) in
    ap (λ x. x.end) (sym found) ∙ end_is 0 es (length es - 1) e (omega (arith, inside))
