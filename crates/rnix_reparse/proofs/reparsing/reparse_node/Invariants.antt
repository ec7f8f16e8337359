use Rattle.std.proofs.Common.{IfSome, ◌<◌, length}
use Rattle.rnix_green.specs.Tree.{items_of}
use Rattle.rnix_reparse.proofs.Climbing.{left_above}
use Rattle.rnix_reparse.proofs.reparsing.reparse_node.Given as goal

abbrev pub invariant-loop-around : goal.invariant-loop-around
invariant-loop-around l = IfSome l.around (λ n. n < length (items_of l.green))

abbrev pub decreases-loop-around : goal.decreases-loop-around
decreases-loop-around l = left_above l.around
