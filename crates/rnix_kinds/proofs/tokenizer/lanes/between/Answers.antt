use Rattle.std.proofs.{Common.{◌+◌, ◌-◌, ◌%◌, ltb, length, ap, ◌∙◌}, lemmas.{Simd.zip2_splat, List.length-map}}
use Rattle.rnix_kinds.proofs.LexicalLemmas.LaneLemmas.{filled, lanes-map}
use Rattle.rnix_kinds.proofs.tokenizer.lanes.between.Goals as goal

pub returns : goal.returns
returns c =
    let v = c.args.bytes in
    let less = zip2_splat (λ a b. (a + (256 - b)) % 256) v 16 c.args.first c.fits-bytes.0 in
    filled ltb _ c.args.count (ap length less ∙ length-map v _ ∙ c.fits-bytes.0) ∙ lanes-map _ _ v less
