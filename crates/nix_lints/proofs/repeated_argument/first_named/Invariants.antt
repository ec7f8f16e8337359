use Rattle.std.proofs.Common.{◌≡◌}
use Rattle.rnix_kinds.specs.declared.kinds.SyntaxKind.TheVariants as k
use Rattle.rnix_green.specs.Equality.{same_kind}
use Rattle.rnix_base.specs.Select.{those_of, nodes_of}
use Rattle.nix_lints.specs.RepeatedArgument.{first_named}
use Rattle.nix_lints.proofs.repeated_argument.first_named.Given as goal

-- the entries that follow decide
abbrev pub invariant-loop-entry : goal.invariant-loop-entry
invariant-loop-entry l = record {
  next : (goal.iterator-loop-entry).can_next l.entry-iterator;
  ends : (goal.iterator-loop-entry).is_finite l.entry-iterator;
  decide : first_named l.text (those_of (same_kind k.NODE_PAT_ENTRY) l.entry-iterator) ≡ first_named l.text (nodes_of (same_kind k.NODE_PAT_ENTRY) l.pattern);
}
