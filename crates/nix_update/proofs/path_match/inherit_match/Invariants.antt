use Rattle.std.{proofs.Common.{◌≡◌}, specs.List.list_any}
use Rattle.{rnix_base.specs.Select.{those_of, nodes_of}, rnix.specs.NodeKinds.is_attr, nix_update.specs.PathMatches.is_named}
use Rattle.nix_update.proofs.path_match.inherit_match.Given as goal

-- the name is among the remaining attributes exactly if it is among all
abbrev pub invariant-loop-attr : goal.invariant-loop-attr
invariant-loop-attr l = record {
  next : (goal.iterator-loop-attr).can_next l.attr-iterator;
  ends : (goal.iterator-loop-attr).is_finite l.attr-iterator;
  any : list_any (is_named l.name) (those_of is_attr l.attr-iterator) ≡ list_any (is_named l.name) (nodes_of is_attr l.inherit);
}
