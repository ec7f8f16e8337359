use Rattle.std.proofs.Common.{◌≡◌, find}
use Rattle.rnix_edit.specs.{Steps.is_at, Alone.node_at}
use Rattle.rnix_edit.proofs.alone.node_at.Given as goal

-- the first node with the range among the remaining ones is the first among all
abbrev pub invariant-loop-node : goal.invariant-loop-node
invariant-loop-node l = record {
  next : (goal.iterator-loop-node).can_next l.nodes;
  ends : (goal.iterator-loop-node).is_finite l.nodes;
  first : find (is_at l.fn.target) l.nodes ≡ node_at l.fn.target l.fn.root;
}
