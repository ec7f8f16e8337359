use Rattle.{std.{proofs.{Common.◌∙◌, lemmas.Nat.or_lt}, specs.FinSet.union}, rnix_kinds.{specs.SyntaxKind.kind_count, proofs.KindSets.kinds_of-or}}
use Rattle.rnix_kinds.proofs.token_set.TokenSet.union.Goals as goal

pub invariant_of-result : goal.invariant_of-result
invariant_of-result c = or_lt kind_count c.self.inside.bits c.other.inside.bits c.self.invariant c.other.invariant

pub returns : goal.returns
returns c = kinds_of-or c.self.inside.bits c.other.inside.bits ∙ (λ i. union (c.self.view_is i) (c.other.view_is i))
