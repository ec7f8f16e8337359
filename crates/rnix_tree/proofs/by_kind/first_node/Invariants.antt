use Rattle.{std.proofs.Common.{◌≡◌, find, length}, rnix_tree.specs.ByKind.is_of_kind}
use Rattle.rnix_tree.proofs.by_kind.first_node.Given as goal

abbrev pub invariant-loop-node : goal.invariant-loop-node
invariant-loop-node l = find (is_of_kind l.fn.kind) l.nodes ≡ find (is_of_kind l.fn.kind) l.fn.nodes

abbrev pub decreases-loop-node : goal.decreases-loop-node
decreases-loop-node l = length l.nodes
