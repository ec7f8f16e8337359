use Rattle.rnix_edit.proofs.SameTreeLemmas.{ShowAlike}
use Rattle.rnix_edit.proofs.same_tree.are_alike.Given as goal

-- the remaining events of both walks show the same exactly if all events do
abbrev pub invariant-loop-event : goal.invariant-loop-event
invariant-loop-event l = record {
  next : (goal.iterator-loop-event).can_next l.a;
  ends : (goal.iterator-loop-event).is_finite l.a;
  alike : ShowAlike l.fn.a l.fn.b l.a l.b;
}
