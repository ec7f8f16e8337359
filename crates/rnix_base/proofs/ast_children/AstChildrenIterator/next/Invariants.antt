use Rattle.{std.proofs.Common.{◌≡◌, length}, rnix_base.specs.Select.those_of}
use Rattle.rnix_base.proofs.ast_children.AstChildrenIterator.next.Given as goal

abbrev pub invariant-loop-node : goal.invariant-loop-node
invariant-loop-node g l = those_of g.T.AstNode.kinds l.self-inside.nodes ≡ those_of g.T.AstNode.kinds l.fn.self

abbrev pub decreases-loop-node : goal.decreases-loop-node
decreases-loop-node g l = length l.self-inside.nodes
