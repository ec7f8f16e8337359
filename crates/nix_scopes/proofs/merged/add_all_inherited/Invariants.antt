use Rattle.{std.proofs.Common.{◌≡◌, ◌++◌, map, true}, rnix_base.specs.Select.those_of, rnix.specs.NodeKinds.is_attr, nix_scopes.specs.Names.names_written}
use Rattle.nix_scopes.specs.{Bound.resolved_of, References.inherited_at, NodePlaces.referring_at}
use Rattle.nix_scopes.proofs.merged.add_all_inherited.Given as goal

abbrev pub invariant-loop-attr : goal.invariant-loop-attr
invariant-loop-attr l = record {
  next : (goal.iterator-loop-attr).can_next l.attr-iterator;
  ends : (goal.iterator-loop-attr).is_finite l.attr-iterator;
  listing : map resolved_of l.references.items
      ++ map (referring_at l.maps l.scope_map l.is_below_with true) (names_written (those_of is_attr l.attr-iterator))
      ≡ map resolved_of l.fn.references.items ++ map (referring_at l.maps l.scope_map l.is_below_with true) (inherited_at l.inherit);
}
