use Rattle.{std.{proofs.Common.{◌∙◌, ap}, specs.FinSet.contains}, rnix_kinds.proofs.KindSets.tests_bit}
use Rattle.rnix_kinds.proofs.token_set.TokenSet.contains.Goals as goal

pub returns : goal.returns
returns c = tests_bit c.self.inside.bits c.args.kind ∙ ap (λ s. contains s c.args.kind) c.self.view_is
