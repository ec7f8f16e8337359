use Rattle.{std.proofs.Common.arith, rnix_tree.proofs.CountLemmas.node_events-few}
use Rattle.rnix_tree.proofs.node.SyntaxNode.preorder.Goals as goal

pub returns-clause-fits : goal.returns-clause-fits
returns-clause-fits c =
    omega (arith, node_events-few c.preorder_with_tokens.result, c.preorder_with_tokens.ensures.fits)
