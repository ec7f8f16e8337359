use Rattle.std.proofs.Common.{◌≡◌}
use Rattle.std.specs.List.{list_any}
use Rattle.rnix_green.specs.Walk.{nodes_in, elements_of}
use Rattle.nix_scopes.specs.Owners.{has_recursive_value}
use Rattle.nix_scopes.proofs.owners.may_merge.Given as goal

abbrev pub invariant-loop-node : goal.invariant-loop-node
invariant-loop-node l = record {
  next : (goal.iterator-loop-node).can_next l.node-iterator;
  ends : (goal.iterator-loop-node).is_finite l.node-iterator;
  same : list_any has_recursive_value l.node-iterator ≡ list_any has_recursive_value (nodes_in (elements_of l.root));
}
