use Rattle.std.{proofs.Common.{◌≡◌}, specs.Prelude.find}
use Rattle.nix_update.specs.Updated.{is_parent_at, parent_at}
use Rattle.nix_update.proofs.guard.parent_at.Given as goal

abbrev pub invariant-loop-node : goal.invariant-loop-node
invariant-loop-node l = record {
  next : (goal.iterator-loop-node).can_next l.node-iterator;
  ends : (goal.iterator-loop-node).is_finite l.node-iterator;
  first : find (is_parent_at l.kind l.start) l.node-iterator ≡ parent_at l.kind l.start l.root;
}
