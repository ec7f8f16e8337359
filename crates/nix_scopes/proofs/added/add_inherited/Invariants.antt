use Rattle.{std.specs.Prelude.flat_map, rnix_base.specs.Select.{nodes_of, those_of}, rnix_green.specs.Tree.Located, rnix.specs.NodeKinds.is_attr}
use Rattle.nix_scopes.specs.{AddedNames.AreHomes, Merged.owned_by}
use Rattle.nix_scopes.proofs.AddedOwnedLemmas.{AddsMost}
use Rattle.nix_scopes.proofs.added.add_inherited.Given as goal

abbrev pub invariant-loop-attr : goal.invariant-loop-attr
invariant-loop-attr l = record {
  next : (goal.iterator-loop-attr).can_next l.attr-iterator;
  ends : (goal.iterator-loop-attr).is_finite l.attr-iterator;
  most : (root : Located) → AreHomes l.homes root →
      AddsMost root l.fn.added l.added (flat_map (owned_by l.owner) (those_of is_attr l.attr-iterator))
      (flat_map (owned_by l.owner) (nodes_of is_attr l.inherit));
}
