use Rattle.std.proofs.Common.{◌≡◌, ◌++◌, map}
use Rattle.std.specs.Prelude.{flat_map}
use Rattle.nix_scopes.specs.Resolved.{resolved_in}
use Rattle.nix_lints.specs.{Found.found_of, NeedlessWith.ArePlaces, Nodes.{found_by_lint, found_at_nodes}}
use Rattle.nix_lints.proofs.nodes.add_at_nodes.Given as goal

-- the findings so far, and those at the nodes that follow
abbrev pub invariant-loop-node : goal.invariant-loop-node
invariant-loop-node l = record {
  next : (goal.iterator-loop-node).can_next l.node-iterator;
  ends : (goal.iterator-loop-node).is_finite l.node-iterator;
  found : ArePlaces (resolved_in l.root) l.places →
      map found_of l.found.items ++ flat_map (found_by_lint (resolved_in l.root)) l.node-iterator ≡ map found_of l.fn.found.items ++ found_at_nodes l.root;
}
