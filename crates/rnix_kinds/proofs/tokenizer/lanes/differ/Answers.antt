use Rattle.{std.proofs.Common.eqb, rnix_kinds.proofs.LexicalLemmas.LaneLemmas.emptied}
use Rattle.rnix_kinds.proofs.tokenizer.lanes.differ.Goals as goal

pub returns : goal.returns
returns c = emptied eqb c.args.bytes c.args.byte c.fits-bytes.0
