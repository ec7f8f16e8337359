use Rattle.std.proofs.Common.{◌≡◌, option_map}
use Rattle.std.specs.Prelude.{find}
use Rattle.rnix_green.specs.Tree.{extent_of}
use Rattle.nix_diagnostics.specs.Locations.{is_error_up_to, error_range}
use Rattle.nix_diagnostics.proofs.locations.too_deep.Given as goal

abbrev pub invariant-loop-node : goal.invariant-loop-node
invariant-loop-node l = record {
  next : (goal.iterator-loop-node).can_next l.node-iterator;
  ends : (goal.iterator-loop-node).is_finite l.node-iterator;
  remaining : error_range l.end l.root ≡ option_map extent_of (find (is_error_up_to l.end) l.node-iterator);
}
