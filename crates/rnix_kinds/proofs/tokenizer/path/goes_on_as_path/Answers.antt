use Rattle.{std.proofs.{Common.arith, lemmas.Str.IsCharBoundary-after_ascii}, rnix_kinds.proofs.LexicalLemmas.WordsLemmas.within_from_byte}
use Rattle.rnix_kinds.proofs.tokenizer.path.goes_on_as_path.Goals as goal

pub range_from-requires : goal.range_from-requires
range_from-requires c positive = IsCharBoundary-after_ascii c.args.text.now c.args.len c.utf8.text (within_from_byte _ _ (omega arith)) (omega arith)
