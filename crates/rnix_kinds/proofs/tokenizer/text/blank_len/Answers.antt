use Rattle.{std.proofs.Common.{◌<◌, rules, arith, sym}, rnix_kinds.proofs.LexicalLemmas.WordsLemmas.space_len-one}
use Rattle.rnix_kinds.proofs.tokenizer.text.blank_len.Goals as goal

pub returns-in-33-to-126 : goal.returns-in-33-to-126
returns-in-33-to-126 c =
    let low : 32 < c.byte_at.result = search rules in
    let high : c.byte_at.result < 127 = search rules in
    sym (space_len-one c.args.text.now c.requires (omega (arith, c.byte_at.ensures)) (omega (arith, c.byte_at.ensures)))
