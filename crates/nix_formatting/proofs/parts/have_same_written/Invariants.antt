use Rattle.std.proofs.Common.{◌≡◌, length}
use Rattle.nix_formatting.specs.{Bare.{bare_parts, parts_among, bare_among}, Values.written_parts}
use Rattle.nix_formatting.proofs.parts.have_same_written.Given as goal

abbrev pub invariant-loop-old_part : goal.invariant-loop-old_part
invariant-loop-old_part l = bare_among l.news ≡ bare_among l.olds → bare_parts (written_parts l.fn.new) ≡ bare_parts (written_parts l.fn.old)

abbrev pub decreases-loop-old_part : goal.decreases-loop-old_part
decreases-loop-old_part l = length (parts_among l.olds)
