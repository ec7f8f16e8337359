use Rattle.{std.proofs.Common.zero-add, rnix_kinds.{specs.declared.tokenizer.text.Class.TheVariants.Name, proofs.LexicalLemmas.WordsLemmas.IsCharBoundary-run}}
use Rattle.rnix_kinds.proofs.tokenizer.word.word.Goals as goal

pub range-requires-clause-end_boundary : goal.range-requires-clause-end_boundary
range-requires-clause-end_boundary c = rw (c.requires.end, zero-add) (IsCharBoundary-run Name c.args.text.now c.utf8.text)
