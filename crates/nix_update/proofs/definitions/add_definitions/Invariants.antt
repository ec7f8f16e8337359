use Rattle.std.{proofs.Common.{◌≡◌, ◌++◌, map}, specs.Prelude.{flat_map, string_bytes}}
use Rattle.nix_update.specs.{PathMatches.path_match, PathSteps.{definition_if, definitions_at}}
use Rattle.nix_update.proofs.definitions.add_definitions.Given as goal

abbrev pub invariant-loop-entry : goal.invariant-loop-entry
invariant-loop-entry l = record {
  next : (goal.iterator-loop-entry).can_next l.entry-iterator;
  ends : (goal.iterator-loop-entry).is_finite l.entry-iterator;
  listing : l.definitions.items ++ flat_map (λ entry. definition_if l.step entry (path_match (map string_bytes l.names) l.step.at entry)) l.entry-iterator
      ≡ l.fn.definitions.items ++ definitions_at (map string_bytes l.names) l.step;
}
