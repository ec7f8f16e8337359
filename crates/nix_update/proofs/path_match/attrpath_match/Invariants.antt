use Rattle.std.{proofs.Common.{◌≡◌, map}, specs.Prelude.string_bytes}
use Rattle.{rnix_base.specs.Select.{those_of, nodes_of}, rnix.specs.NodeKinds.is_attr, nix_update.specs.PathMatches.attrpath_match}
use Rattle.nix_update.proofs.path_match.attrpath_match.Given as goal

-- the remaining attributes match the rest of the path as all attributes match the path
abbrev pub invariant-loop-attr : goal.invariant-loop-attr
invariant-loop-attr l = record {
  next : (goal.iterator-loop-attr).can_next l.attr-iterator;
  ends : (goal.iterator-loop-attr).is_finite l.attr-iterator;
  matched : attrpath_match (map string_bytes l.names) l.at (those_of is_attr l.attr-iterator)
      ≡ attrpath_match (map string_bytes l.names) l.start (nodes_of is_attr l.attrpath);
}
