use Rattle.rnix_tree.proofs.RelativeLemmas.{IsBack, left_back}
use Rattle.rnix_tree.proofs.relatives.last_node.Given as goal

abbrev pub invariant-loop-next : goal.invariant-loop-next
invariant-loop-next l = IsBack l.green l.initial.next l.next

abbrev pub decreases-loop-next : goal.decreases-loop-next
decreases-loop-next l = left_back l.next
