use Rattle.std.proofs.Common.{◌≡◌}
use Rattle.nix_update.specs.Updated.{last_among, last_member}
use Rattle.nix_update.proofs.change.last_member.Given as goal

abbrev pub invariant-loop-node : goal.invariant-loop-node
invariant-loop-node l = record {
  next : (goal.iterator-loop-node).can_next l.node-iterator;
  ends : (goal.iterator-loop-node).is_finite l.node-iterator;
  last : last_among l.last l.node-iterator ≡ last_member l.parent;
}
