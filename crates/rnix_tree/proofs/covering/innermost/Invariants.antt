use Rattle.{std.proofs.Common.{◌-◌}, rnix_green.specs.{Range.bounds_of}, rnix_tree.proofs.CoveringLemmas.IsReached}
use Rattle.rnix_tree.proofs.covering.innermost.Given as goal

abbrev pub invariant-loop-reached : goal.invariant-loop-reached
invariant-loop-reached l = IsReached l.green (bounds_of l.range) l.fn.number l.token l.reached

abbrev pub decreases-loop-reached : goal.decreases-loop-reached
decreases-loop-reached l = l.token - l.reached
