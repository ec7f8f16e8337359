use Rattle.std.proofs.{Common.arith, lemmas.Str.IsCharBoundary-after_ascii}
use Rattle.rnix_base.proofs.indent.behind_blank.Goals as goal

pub range_from-requires : goal.range_from-requires
range_from-requires c =
    let feed = rw c.as_bytes-bytes.ensures.value at c.if-bytes-spaces-eq10.true in
    λ _. IsCharBoundary-after_ascii c.args.text.now c.spaces_before-spaces.result c.utf8.text (rw c.as_bytes-bytes.ensures.value at c.if-spaces-bytes.true)
    (omega (arith, feed))
