use Rattle.std.proofs.Common.{map}
use Rattle.nix_values.specs.Built.{built_of}
use Rattle.nix_values.specs.Groups.{groups_of, AreLinkedFrom}
use Rattle.nix_values.proofs.nodes.Nodes.links.Given as goal

abbrev pub invariant-loop-number : goal.invariant-loop-number
invariant-loop-number l = AreLinkedFrom l.number (groups_of (map built_of l.self.nodes.items)) l.links
