use Rattle.std.proofs.Common.{◌-◌}
use Rattle.rnix_tree.specs.AlikeSiblings.{IsReached}
use Rattle.rnix_tree.proofs.sibling_range.end_before.Given as goal

-- the number is reached over siblings that end before the offset
abbrev pub invariant-loop-number : goal.invariant-loop-number
invariant-loop-number l = IsReached l.green l.siblings.end l.offset l.siblings.first l.number

-- the numbers that are left
abbrev pub decreases-loop-number : goal.decreases-loop-number
decreases-loop-number l = l.siblings.end - l.number
