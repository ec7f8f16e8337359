use Rattle.{std.specs.Prelude.flat_map, rnix_green.specs.{Tree.Located, Walk.{nodes_in, elements_of}}}
use Rattle.nix_scopes.specs.{AddedNames.AreHomes, Merged.owned_at}
use Rattle.nix_scopes.proofs.AddedOwnedLemmas.{AddsMost}
use Rattle.nix_scopes.proofs.added.Added.of.Given as goal

abbrev pub invariant-loop-node : goal.invariant-loop-node
invariant-loop-node l = record {
  next : (goal.iterator-loop-node).can_next l.node-iterator;
  ends : (goal.iterator-loop-node).is_finite l.node-iterator;
  most : (root : Located) → AreHomes l.homes root →
      AddsMost root l.initial.added l.added (flat_map owned_at l.node-iterator) (flat_map owned_at (nodes_in (elements_of l.root)));
}
