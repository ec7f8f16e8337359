use Rattle.rnix_kinds.proofs.LexicalLemmas.WordsLemmas.{space_len-trim_start}
use Rattle.rnix_kinds.proofs.tokenizer.text.wide_space_len.Goals as goal

pub returns : goal.returns
returns c = rw c.trim_start.ensures.trim (space_len-trim_start c.args.text.now c.utf8.text)
