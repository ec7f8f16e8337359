use Rattle.std.proofs.Common.{◌∙◌, arith}
use Rattle.rnix_base.proofs.LetterLemmas.{escape_letter}
use Rattle.rnix_base.proofs.value.next_letter.Goals as goal

pub returns : goal.returns
returns c =
    escape_letter c.args.bytes.now _ _ _ c.escape_len-len.result c.in_ok-first.ensures.cases.0 c.escape_len-len.ensures.len
    (omega (arith, c.if-len-eq0.false)) c.escape_len-len.ensures.within c.split_at.ensures.back
