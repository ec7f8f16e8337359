use Rattle.{std.proofs.Common.{◌≡◌, length}, rnix_base.specs.{Indent.indent_behind, Value.without_escapes}}
use Rattle.rnix_base.proofs.value.behind_letters.Given as goal

abbrev pub invariant-loop-letter : goal.invariant-loop-letter
invariant-loop-letter l = indent_behind l.fn.indent (without_escapes l.bytes) ≡ indent_behind l.indent (without_escapes l.rest)

abbrev pub decreases-loop-letter : goal.decreases-loop-letter
decreases-loop-letter l = length l.rest
