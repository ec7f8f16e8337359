use Rattle.std.{proofs.Common.{◌≡◌}, specs.Prelude.find}
use Rattle.nix_update.specs.Lists.{is_element_with, element_with}
use Rattle.nix_update.proofs.lists.element_with.Given as goal

abbrev pub invariant-loop-node : goal.invariant-loop-node
invariant-loop-node l = record {
  next : (goal.iterator-loop-node).can_next l.node-iterator;
  ends : (goal.iterator-loop-node).is_finite l.node-iterator;
  first : find (is_element_with l.text) l.node-iterator ≡ element_with l.text l.list;
}
