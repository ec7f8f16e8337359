use Rattle.{std.{proofs.Common.◌∙◌, specs.FinSet.union}, rnix_kinds.proofs.KindSets.one-union}
use Rattle.rnix_kinds.proofs.token_set.SyntaxKindBitOrTokenSet.bitor.Goals as goal

pub returns : goal.returns
returns c = c.union.ensures ∙ (λ i. union (c.new.ensures i) c.args.rhs) ∙ one-union c.args.self c.args.rhs
