use Rattle.std.proofs.Common.{◌≡◌, [], length}
use Rattle.std.specs.Vec.Iter.{into_iter_items, into_iter_len}
use Rattle.nix_data.specs.Definitions.{definitions_of}
use Rattle.nix_values.specs.Each.{each}
use Rattle.nix_data.specs.Selection.{merged_with}
use Rattle.nix_values.proofs.EachLemmas.{IsRest}
use Rattle.nix_data.proofs.selection.merged.Given as goal

-- the remaining definitions are merged with what is found
abbrev pub invariant-loop-definition : goal.invariant-loop-definition
invariant-loop-definition l = record {
  length : into_iter_len l.rest ≡ length (into_iter_items l.rest);
  rest : IsRest (merged_with l.name) (definitions_of (into_iter_items l.rest)) (definitions_of l.found.items)
      (each (merged_with l.name) (definitions_of (into_iter_items l.initial.rest)) []);
}

abbrev pub decreases-loop-definition : goal.decreases-loop-definition
decreases-loop-definition l = into_iter_len l.rest
