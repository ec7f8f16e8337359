use Rattle.{std.{proofs.Common.{◌≡◌, length}, specs.Prelude.slice_get}, rnix_base.specs.Select.{those_of, child_of}}
use Rattle.rnix_base.proofs.accessors.child_at.Given as goal

abbrev pub invariant-loop-node : goal.invariant-loop-node
invariant-loop-node g l = slice_get (those_of g.T.AstNode.kinds l.nodes) l.before ≡ child_of g.T.AstNode.kinds l.fn.number l.fn.parent

abbrev pub decreases-loop-node : goal.decreases-loop-node
decreases-loop-node g l = length (those_of g.T.AstNode.kinds l.nodes)
