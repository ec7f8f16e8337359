use Rattle.{std.{proofs.Common.{[], ◌∷◌, ◌∙◌}, specs.FinSet.union}, rnix_kinds.{specs.TokenSet.set_of, proofs.KindSets.one-union}}
use Rattle.rnix_kinds.proofs.token_set.SyntaxKindBitOr.bitor.Goals as goal

pub returns : goal.returns
returns c = c.union.ensures ∙ (λ i. union (c.new.ensures i) (c.new-2.ensures i)) ∙ one-union c.args.self (set_of (c.args.rhs ∷ []))
