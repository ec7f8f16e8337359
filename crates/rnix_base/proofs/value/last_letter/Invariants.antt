use Rattle.{std.{proofs.Common.{◌≡◌, length}, specs.List.fold}, rnix_base.specs.Value.{without_escapes, last_byte}}
use Rattle.rnix_base.proofs.value.last_letter.Given as goal

abbrev pub invariant-loop-letter : goal.invariant-loop-letter
invariant-loop-letter l = last_byte (without_escapes l.bytes) ≡ fold (λ before b. b) l.last (without_escapes l.rest)

abbrev pub decreases-loop-letter : goal.decreases-loop-letter
decreases-loop-letter l = length l.rest
