use Rattle.std.proofs.Common.{map}
use Rattle.nix_values.specs.Built.{built_of}
use Rattle.nix_values.specs.Groups.{groups_of}
use Rattle.nix_values.proofs.InOrderLemmas.{AreInOrder}
use Rattle.nix_values.proofs.nodes.Nodes.is_in_order.Given as goal

abbrev pub invariant-loop-number : goal.invariant-loop-number
invariant-loop-number l = AreInOrder (groups_of (map built_of l.self.nodes.items)) l.number l.around.items
