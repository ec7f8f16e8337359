use Rattle.{std.proofs.Common.{◌≡◌, ◌++◌, map, true}, rnix_base.specs.Select.those_of, rnix.specs.NodeKinds.is_attr, nix_scopes.specs.Names.names_written}
use Rattle.nix_scopes.specs.{Bound.resolved_of, References.inherited_at, Resolving.{is_in_scope, resolve_name}}
use Rattle.rnix_green.specs.Relatives.{parent_of}
use Rattle.nix_scopes.proofs.resolving.add_all_inherited.Given as goal

abbrev pub invariant-loop-attr : goal.invariant-loop-attr
invariant-loop-attr l = record {
  next : (goal.iterator-loop-attr).can_next l.attr-iterator;
  ends : (goal.iterator-loop-attr).is_finite l.attr-iterator;
  listing : map resolved_of l.references.items ++ map (resolve_name l.around l.in_scope true) (names_written (those_of is_attr l.attr-iterator))
      ≡ map resolved_of l.fn.references.items ++ map (resolve_name l.around (is_in_scope l.around (parent_of l.inherit)) true) (inherited_at l.inherit);
}
