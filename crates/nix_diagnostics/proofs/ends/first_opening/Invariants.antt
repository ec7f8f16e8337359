use Rattle.std.proofs.Common.{◌≡◌}
use Rattle.rnix_green.specs.Walk.{elements_of}
use Rattle.nix_diagnostics.specs.Ends.{first_opening}
use Rattle.nix_diagnostics.proofs.ends.first_opening.Given as goal

abbrev pub invariant-loop-element : goal.invariant-loop-element
invariant-loop-element l = record {
  next : (goal.iterator-loop-element).can_next l.element-iterator;
  ends : (goal.iterator-loop-element).is_finite l.element-iterator;
  remaining : first_opening l.end l.element-iterator ≡ first_opening l.end (elements_of l.root);
}
