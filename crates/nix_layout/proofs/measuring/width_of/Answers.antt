use Rattle.std.proofs.Common.{sym, ◌∙◌}
use Rattle.nix_layout.proofs.FittingLemmas.{mapped, mapped_beyond}
use Rattle.nix_layout.proofs.measuring.width_of.Goals as goal

pub returns-then-number-pieces : goal.returns-then-number-pieces
returns-then-number-pieces c = c.width.ensures ∙ sym (mapped (λ p. p.width) c.args.pieces.now c.args.number _ c.if-number-pieces.true)

pub returns-else-number-pieces : goal.returns-else-number-pieces
returns-else-number-pieces c = sym (mapped_beyond (λ p. p.width) c.args.pieces.now c.args.number c.if-number-pieces.false)
