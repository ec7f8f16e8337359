use Rattle.{std.proofs.Common.map, rnix_base.specs.Select.{nodes_of, those_of}, rnix.specs.NodeKinds.is_attr}
use Rattle.nix_attributes.{specs.DefinedNames.inherited_at, proofs.RepeatedLemmas.AddsSome}
use Rattle.nix_attributes.proofs.entries.add_inherited.Given as goal

abbrev pub invariant-loop-attr : goal.invariant-loop-attr
invariant-loop-attr l = record {
  next : (goal.iterator-loop-attr).can_next l.attr-iterator;
  ends : (goal.iterator-loop-attr).is_finite l.attr-iterator;
  some : AddsSome l.fn.attributes l.attributes (map (inherited_at l.owner) (those_of is_attr l.attr-iterator))
      (map (inherited_at l.owner) (nodes_of is_attr l.inherit));
}
