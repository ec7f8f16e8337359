use Rattle.std.proofs.Common.{◌≡◌, map}
use Rattle.nix_values.specs.Contents.{entry_of}
use Rattle.nix_values.specs.ValueDepths.{entry_in}
use Rattle.nix_values.proofs.nodes.Nodes.into_all.Given as goal

abbrev pub invariant-loop-node : goal.invariant-loop-node
invariant-loop-node l = map entry_of l.items.items ≡ map entry_in l.yielded
