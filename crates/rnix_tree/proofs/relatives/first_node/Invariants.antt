use Rattle.rnix_tree.proofs.RelativeLemmas.{IsAhead, left_ahead}
use Rattle.rnix_tree.proofs.relatives.first_node.Given as goal

abbrev pub invariant-loop-next : goal.invariant-loop-next
invariant-loop-next l = IsAhead l.green l.initial.next l.next

abbrev pub decreases-loop-next : goal.decreases-loop-next
decreases-loop-next l = left_ahead l.green l.next
