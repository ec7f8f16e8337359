use Rattle.std.proofs.Common.{◌≡◌, ◌++◌}
use Rattle.nix_diagnostics.specs.Locations.{last_end, end_of_items}
use Rattle.nix_diagnostics.specs.Ends.{last_kind, last_kind_in}
use Rattle.nix_diagnostics.specs.Unmatched.{unmatched, unmatched_after}
use Rattle.nix_diagnostics.specs.Independence.{semicolons_in, semicolons_of}
use Rattle.nix_diagnostics.proofs.brackets.match_brackets.Given as goal

abbrev pub invariant-loop-element : goal.invariant-loop-element
invariant-loop-element l = record {
  next : (goal.iterator-loop-element).can_next l.element-iterator;
  ends : (goal.iterator-loop-element).is_finite l.element-iterator;
  end : end_of_items l.node ≡ last_end l.end l.element-iterator;
  last : last_kind l.node ≡ last_kind_in l.last l.element-iterator;
  extra : unmatched l.node ≡ unmatched_after l.openings l.element-iterator;
  semicolons : semicolons_of l.node ≡ l.semicolons.items ++ semicolons_in l.element-iterator;
}
