use Rattle.{std.proofs.Common.{◌≡◌, ◌++◌, map}, rnix_base.specs.Select.those_of, rnix.specs.NodeKinds.is_attr, nix_scopes.specs.Names.names_written}
use Rattle.nix_scopes.specs.Binders.{named, inherit_names}
use Rattle.nix_scopes.proofs.names.add_inherit.Given as goal

abbrev pub invariant-loop-attr : goal.invariant-loop-attr
invariant-loop-attr l = record {
  next : (goal.iterator-loop-attr).can_next l.attr-iterator;
  ends : (goal.iterator-loop-attr).is_finite l.attr-iterator;
  listing : map named l.names.items ++ names_written (those_of is_attr l.attr-iterator) ≡ map named l.fn.names.items ++ inherit_names l.inherit;
}
