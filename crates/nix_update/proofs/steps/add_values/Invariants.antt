use Rattle.std.{proofs.Common.{◌≡◌, ◌++◌, map}, specs.Prelude.{flat_map, string_bytes}}
use Rattle.nix_update.specs.{PathMatches.path_match, PathSteps.{continued_value, values_in}}
use Rattle.nix_update.proofs.steps.add_values.Given as goal

abbrev pub invariant-loop-entry : goal.invariant-loop-entry
invariant-loop-entry l = record {
  next : (goal.iterator-loop-entry).can_next l.entry-iterator;
  ends : (goal.iterator-loop-entry).is_finite l.entry-iterator;
  listing : l.steps.items ++ flat_map (λ entry. continued_value (path_match (map string_bytes l.names) l.at entry) l.in_let entry) l.entry-iterator
      ≡ l.fn.steps.items ++ values_in (map string_bytes l.names) l.at l.in_let l.node;
}
