use Rattle.{rnix_base.specs.Select.{nodes_of, those_of}, rnix_green.specs.Tree.Located, rnix.specs.NodeKinds.is_attr}
use Rattle.nix_scopes.specs.{AddedNames.AreHomes, Merged.owned_names}
use Rattle.nix_scopes.proofs.AddedOwnedLemmas.{AddsMost}
use Rattle.nix_scopes.proofs.added.add_path.Given as goal

abbrev pub invariant-loop-attr : goal.invariant-loop-attr
invariant-loop-attr l = record {
  next : (goal.iterator-loop-attr).can_next l.attr-iterator;
  ends : (goal.iterator-loop-attr).is_finite l.attr-iterator;
  most : (root : Located) → AreHomes l.homes root →
      AddsMost root l.fn.added l.added (owned_names l.before (those_of is_attr l.attr-iterator)) (owned_names l.owner (nodes_of is_attr l.path));
}
