use Rattle.{std.proofs.Common.arith, rnix_tree.proofs.CountLemmas.nodes_in-few}
use Rattle.rnix_tree.proofs.node.SyntaxNode.descendants.Goals as goal

pub returns-clause-fits : goal.returns-clause-fits
returns-clause-fits c =
    omega (arith, nodes_in-few c.descendants_with_tokens.result, c.descendants_with_tokens.ensures.fits)
