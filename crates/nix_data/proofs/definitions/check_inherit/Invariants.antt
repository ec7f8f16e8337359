use Rattle.std.proofs.Common.{◌≡◌}
use Rattle.rnix_base.specs.Select.{those_of, nodes_of}
use Rattle.rnix.specs.NodeKinds.{is_attr}
use Rattle.nix_data.specs.Selection.{inherited_by}
use Rattle.nix_data.proofs.definitions.check_inherit.Given as goal

abbrev pub invariant-loop-attr : goal.invariant-loop-attr
invariant-loop-attr l = record {
  next : (goal.iterator-loop-attr).can_next l.attr-iterator;
  ends : (goal.iterator-loop-attr).is_finite l.attr-iterator;
  remaining : inherited_by l.name (those_of is_attr l.attr-iterator) ≡ inherited_by l.name (nodes_of is_attr l.inherit);
}
