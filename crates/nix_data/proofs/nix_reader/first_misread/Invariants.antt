use Rattle.std.proofs.Common.{◌≡◌}
use Rattle.std.specs.List.{list_any}
use Rattle.rnix_green.specs.Walk.{elements_of}
use Rattle.nix_data.specs.Misread.{is_misread_at}
use Rattle.nix_data.proofs.nix_reader.first_misread.Given as goal

abbrev pub invariant-loop-element : goal.invariant-loop-element
invariant-loop-element l = record {
  next : (goal.iterator-loop-element).can_next l.element-iterator;
  ends : (goal.iterator-loop-element).is_finite l.element-iterator;
  remaining : list_any is_misread_at l.element-iterator ≡ list_any is_misread_at (elements_of l.root);
}
