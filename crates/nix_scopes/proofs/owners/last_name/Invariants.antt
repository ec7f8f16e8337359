use Rattle.std.proofs.Common.{◌≡◌, None}
use Rattle.{rnix_base.specs.Select.{nodes_of, those_of}, rnix.specs.NodeKinds.is_attr}
use Rattle.nix_scopes.specs.Owners.{last_or}
use Rattle.nix_scopes.proofs.owners.last_name.Given as goal

abbrev pub invariant-loop-attr : goal.invariant-loop-attr
invariant-loop-attr l = record {
  next : (goal.iterator-loop-attr).can_next l.attr-iterator;
  ends : (goal.iterator-loop-attr).is_finite l.attr-iterator;
  same : last_or l.last (those_of is_attr l.attr-iterator) ≡ last_or None (nodes_of is_attr l.path);
}
