use Rattle.std.{proofs.{Common.{◌≡◌, ◌+◌, ◌-◌, arith, subst}, lemmas.Str.IsCharBoundary-after_ascii}, specs.Str.IsCharBoundary}
use Rattle.rnix_base.proofs.indent.without_last_spaces.Goals as goal

pub range-requires-clause-end_boundary : goal.range-requires-clause-end_boundary
range-requires-clause-end_boundary c =
    let feed = rw c.as_bytes-bytes.ensures.value at c.if-bytes-end-eq10.true in
    let within = rw c.as_bytes-bytes.ensures.value at c.trimmed_len-end.ensures.within in
    let whole : c.trimmed_len-end.result - 1 + 1 ≡ c.trimmed_len-end.result = omega arith in
    subst (IsCharBoundary c.args.text.now) whole (IsCharBoundary-after_ascii c.args.text.now (c.trimmed_len-end.result - 1) c.utf8.text (omega (arith, within))
    (omega (arith, feed)))
