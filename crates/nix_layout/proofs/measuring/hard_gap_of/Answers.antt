use Rattle.std.proofs.Common.{sym, ◌∙◌}
use Rattle.nix_layout.specs.Fitting.{one_if}
use Rattle.nix_layout.proofs.FittingLemmas.{mapped, mapped_beyond}
use Rattle.nix_layout.proofs.measuring.hard_gap_of.Goals as goal

pub returns-then-number-pieces : goal.returns-then-number-pieces
returns-then-number-pieces c = c.hard_gap.ensures ∙ sym (mapped (λ p. one_if p.gap.is_hard) c.args.pieces.now c.args.number _ c.if-number-pieces.true)

pub returns-else-number-pieces : goal.returns-else-number-pieces
returns-else-number-pieces c = sym (mapped_beyond (λ p. one_if p.gap.is_hard) c.args.pieces.now c.args.number c.if-number-pieces.false)
