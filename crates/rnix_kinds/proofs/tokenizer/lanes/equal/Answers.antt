use Rattle.{std.proofs.Common.eqb, rnix_kinds.proofs.LexicalLemmas.LaneLemmas.filled}
use Rattle.rnix_kinds.proofs.tokenizer.lanes.equal.Goals as goal

pub returns : goal.returns
returns c = filled eqb c.args.bytes c.args.byte c.fits-bytes.0
