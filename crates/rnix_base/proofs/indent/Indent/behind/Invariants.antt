use Rattle.{std.proofs.Common.{◌≡◌, length}, rnix_base.specs.Indent.indent_behind}
use Rattle.rnix_base.proofs.indent.Indent.behind.Given as goal

abbrev pub invariant-loop-first : goal.invariant-loop-first
invariant-loop-first l = indent_behind l.fn.self l.bytes ≡ indent_behind l.indent l.rest

abbrev pub decreases-loop-first : goal.decreases-loop-first
decreases-loop-first l = length l.rest
