use Rattle.{std.proofs.Common.lit<, rnix_kinds.proofs.LexicalLemmas.LongestLemmas.{prefix_len-IsLongest, content_len-IsLongest, before_pair-IsFirstPair}}
use Rattle.rnix_kinds.proofs.LexicalLemmas.{OperatorsLemmas.operator-IsLongest, SchemeLemmas.scheme_ends}
use Rattle.rnix_kinds.proofs.tokenizer.longest.Goals as goal

pub returns : goal.returns
returns c = record {
  run = λ test. prefix_len-IsLongest test c.args.text.now;
  content = content_len-IsLongest c.args.multiline c.args.text.now;
  comment = before_pair-IsFirstPair 42 47 c.args.text.now (lit< tt);
  operator = operator-IsLongest c.args.text.now;
  scheme = scheme_ends c.args.text.now;
}
