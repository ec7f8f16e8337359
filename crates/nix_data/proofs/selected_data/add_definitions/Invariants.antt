use Rattle.std.proofs.Common.{◌≡◌, false, length}
use Rattle.std.specs.Vec.Iter.{into_iter_items, into_iter_len}
use Rattle.nix_data.specs.Definitions.{definitions_of}
use Rattle.nix_data.specs.Places.{values_read}
use Rattle.nix_data.specs.SelectedData.{definition_added, definitions_added}
use Rattle.nix_values.proofs.EachLemmas.{IsRest}
use Rattle.nix_data.proofs.selected_data.add_definitions.Given as goal

-- the remaining definitions add the rest of the values
abbrev pub invariant-loop-definition : goal.invariant-loop-definition
invariant-loop-definition l = record {
  length : into_iter_len l.rest ≡ length (into_iter_items l.rest);
  rest : l.reader.is_lossy ≡ false → IsRest definition_added (definitions_of (into_iter_items l.rest)) (values_read l.values)
      (definitions_added (definitions_of (into_iter_items l.initial.rest)) (values_read l.initial.values));
}

abbrev pub decreases-loop-definition : goal.decreases-loop-definition
decreases-loop-definition l = into_iter_len l.rest
