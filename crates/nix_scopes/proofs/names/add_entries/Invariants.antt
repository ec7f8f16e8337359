use Rattle.{std.{proofs.Common.{◌≡◌, ◌++◌, map}, specs.Prelude.flat_map}, nix_scopes.specs.Binders.{named, entry_names, entries_names}}
use Rattle.nix_scopes.proofs.names.add_entries.Given as goal

abbrev pub invariant-loop-entry : goal.invariant-loop-entry
invariant-loop-entry l = record {
  next : (goal.iterator-loop-entry).can_next l.entry-iterator;
  ends : (goal.iterator-loop-entry).is_finite l.entry-iterator;
  listing : map named l.names.items ++ flat_map entry_names l.entry-iterator ≡ map named l.fn.names.items ++ entries_names l.scope;
}
