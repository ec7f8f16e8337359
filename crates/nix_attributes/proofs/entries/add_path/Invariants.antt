use Rattle.{rnix_base.specs.Select.{nodes_of, those_of}, rnix.specs.{NodeKinds.is_attr, Sums.attr_node}}
use Rattle.nix_attributes.{specs.DefinedNames.{names_from, names_of}, proofs.RepeatedLemmas.AddsSome}
use Rattle.nix_attributes.proofs.entries.add_path.Given as goal

abbrev pub invariant-loop-attr : goal.invariant-loop-attr
invariant-loop-attr l = record {
  next : (goal.iterator-loop-attr).can_next l.attr-iterator;
  ends : (goal.iterator-loop-attr).is_finite l.attr-iterator;
  some : AddsSome l.fn.attributes l.attributes (names_from l.before l.continues l.set (attr_node l.last) (those_of is_attr l.attr-iterator))
      (names_of l.owner l.set (nodes_of is_attr l.path));
}
