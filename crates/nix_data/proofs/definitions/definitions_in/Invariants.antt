use Rattle.nix_data.specs.Definitions.{definitions_of}
use Rattle.nix_data.specs.Selection.{with_defined, definitions_in}
use Rattle.nix_values.proofs.EachLemmas.{IsRest}
use Rattle.nix_data.proofs.definitions.definitions_in.Given as goal

-- the remaining nodes define the rest
abbrev pub invariant-loop-node : goal.invariant-loop-node
invariant-loop-node l = record {
  next : (goal.iterator-loop-node).can_next l.node-iterator;
  ends : (goal.iterator-loop-node).is_finite l.node-iterator;
  rest : IsRest (with_defined l.name) l.node-iterator (definitions_of l.found.items) (definitions_in l.name l.scope);
}
