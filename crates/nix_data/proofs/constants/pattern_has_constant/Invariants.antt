use Rattle.std.proofs.Common.{◌≡◌}
use Rattle.std.specs.List.{list_any}
use Rattle.rnix_kinds.specs.declared.kinds.SyntaxKind.TheVariants as k
use Rattle.rnix_green.specs.Equality.{same_kind}
use Rattle.rnix_base.specs.Select.{those_of, nodes_of}
use Rattle.nix_data.specs.Selection.{has_constant}
use Rattle.nix_data.proofs.constants.pattern_has_constant.Given as goal

abbrev pub invariant-loop-entry : goal.invariant-loop-entry
invariant-loop-entry l = record {
  next : (goal.iterator-loop-entry).can_next l.entry-iterator;
  ends : (goal.iterator-loop-entry).is_finite l.entry-iterator;
  remaining : list_any has_constant (those_of (same_kind k.NODE_PAT_ENTRY) l.entry-iterator)
      ≡ list_any has_constant (nodes_of (same_kind k.NODE_PAT_ENTRY) l.pattern);
}
