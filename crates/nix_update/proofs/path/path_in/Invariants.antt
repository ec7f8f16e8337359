use Rattle.std.{proofs.Common.{◌≡◌, ◌++◌, ◌-◌, Some, map}, specs.Prelude.string_bytes}
use Rattle.{rnix_green.specs.Tree.item_of, rnix_base.specs.Select.{those_of, nodes_of}, rnix.specs.NodeKinds.is_attr}
use Rattle.rnix.specs.AttrName.{static_name}
use Rattle.nix_update.proofs.path.path_in.Given as goal

abbrev pub invariant-loop-attr : goal.invariant-loop-attr
invariant-loop-attr l = record {
  next : (goal.iterator-loop-attr).can_next l.attr-iterator;
  ends : (goal.iterator-loop-attr).is_finite l.attr-iterator;
  names : map Some (map string_bytes l.names.items) ++ map static_name (those_of is_attr l.attr-iterator) ≡ map static_name (nodes_of is_attr l.attrpath);
  starts : l.starts.items ++ map (λ attr. (item_of attr).start - 1) (those_of is_attr l.attr-iterator)
      ≡ map (λ attr. (item_of attr).start - 1) (nodes_of is_attr l.attrpath);
}
