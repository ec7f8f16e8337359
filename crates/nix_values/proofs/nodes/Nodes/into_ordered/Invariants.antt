use Rattle.std.proofs.Common.{◌≡◌, ◌++◌, drop, map}
use Rattle.nix_values.specs.Contents.{entry_of}
use Rattle.nix_values.specs.Groups.{AreDistinct}
use Rattle.nix_values.specs.ValueDepths.{entries_at}
use Rattle.nix_values.proofs.nodes.Nodes.into_ordered.Given as goal

abbrev pub invariant-loop-number : goal.invariant-loop-number
invariant-loop-number l = record {
  taken : map entry_of l.items.items ++ entries_at l.self.nodes.items (drop l.number-index l.order) ≡ entries_at l.fn.self.nodes.items l.order;
  distinct : AreDistinct (drop l.number-index l.order);
}
