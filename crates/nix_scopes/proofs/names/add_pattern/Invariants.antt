use Rattle.{std.{proofs.Common.{◌≡◌, ◌++◌, map}, specs.Prelude.flat_map}, rnix_green.specs.Equality.same_kind, rnix_base.specs.Select.those_of}
use Rattle.nix_scopes.specs.Binders.{named, own_name, pattern_names}
use Rattle.rnix_kinds.specs.declared.kinds.SyntaxKind.TheVariants as k
use Rattle.nix_scopes.proofs.names.add_pattern.Given as goal

abbrev pub invariant-loop-entry : goal.invariant-loop-entry
invariant-loop-entry l = record {
  next : (goal.iterator-loop-entry).can_next l.entry-iterator;
  ends : (goal.iterator-loop-entry).is_finite l.entry-iterator;
  listing : map named l.names.items ++ flat_map own_name (those_of (same_kind k.NODE_PAT_ENTRY) l.entry-iterator) ≡ map named l.fn.names.items ++ pattern_names
      l.pattern;
}
