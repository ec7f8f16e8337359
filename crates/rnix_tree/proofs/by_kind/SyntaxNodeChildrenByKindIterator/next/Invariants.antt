use Rattle.{std.proofs.Common.{◌≡◌, filter, length}, rnix_tree.specs.ByKind.is_of_kind}
use Rattle.rnix_tree.proofs.by_kind.SyntaxNodeChildrenByKindIterator.next.Given as goal

abbrev pub invariant-loop-node : goal.invariant-loop-node
invariant-loop-node l = filter (is_of_kind l.self-inside.kind) l.self-inside.nodes ≡ l.fn.self

abbrev pub decreases-loop-node : goal.decreases-loop-node
decreases-loop-node l = length l.self-inside.nodes
