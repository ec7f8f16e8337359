use Rattle.std.proofs.Common.{sym}
use Rattle.nix_layout.proofs.FittingLemmas.{mapped, mapped_beyond}
use Rattle.nix_layout.proofs.measuring.end_of.Goals as goal

pub returns-then-number-sums : goal.returns-then-number-sums
returns-then-number-sums c = sym (mapped (λ s. s.end) c.args.sums.now c.args.number _ c.if-number-sums.true)

pub returns-else-number-sums : goal.returns-else-number-sums
returns-else-number-sums c = sym (mapped_beyond (λ s. s.end) c.args.sums.now c.args.number c.if-number-sums.false)
