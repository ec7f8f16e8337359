use Rattle.std.specs.Prelude.{flat_map}
use Rattle.nix_attributes.{specs.DefinedNames.{names_at, names_in}, proofs.RepeatedLemmas.AddsSome}
use Rattle.nix_attributes.proofs.repeated.repeated_attributes.Given as goal

abbrev pub invariant-loop-node : goal.invariant-loop-node
invariant-loop-node l = record {
  next : (goal.iterator-loop-node).can_next l.node-iterator;
  ends : (goal.iterator-loop-node).is_finite l.node-iterator;
  some : AddsSome l.initial.attributes l.attributes (flat_map names_at l.node-iterator) (names_in l.root);
}
