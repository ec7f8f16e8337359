use Rattle.{std.{proofs.Common.◌∙◌, specs.FinSet.union}, rnix_kinds.proofs.KindSets.union-one}
use Rattle.rnix_kinds.proofs.token_set.TokenSetBitOrSyntaxKind.bitor.Goals as goal

pub returns : goal.returns
returns c = c.union.ensures ∙ (λ i. union c.args.self (c.new.ensures i)) ∙ union-one c.args.self c.args.rhs
