use Rattle.std.proofs.Common.{◌≡◌, ◌++◌, length, map}
use Rattle.nix_values.specs.Built.{built_of}
use Rattle.nix_values.specs.Groups.{groups_of, order_of}
use Rattle.nix_values.proofs.PendingLemmas.{pending, AreWithin}
use Rattle.nix_values.proofs.nodes.Nodes.order.Given as goal

abbrev pub invariant-loop-number : goal.invariant-loop-number
invariant-loop-number l =
    let groups = groups_of (map built_of l.self.nodes.items) in
    record {
      visited : l.order.items ++ pending groups l.pending.items ≡ order_of groups;
      within : AreWithin groups l.pending.items;
    }

abbrev pub decreases-loop-number : goal.decreases-loop-number
decreases-loop-number l = length (pending (groups_of (map built_of l.self.nodes.items)) l.pending.items)
