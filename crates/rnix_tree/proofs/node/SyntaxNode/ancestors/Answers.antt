use Rattle.{std.proofs.Common.arith, rnix_tree.proofs.CountLemmas.ancestors_of-few}
use Rattle.rnix_tree.proofs.node.SyntaxNode.ancestors.Goals as goal

pub returns-clause-fits : goal.returns-clause-fits
returns-clause-fits c =
    let s = c.self.inside in
    omega (arith, ancestors_of-few record { tree = s.green.now; number = s.number }, c.element-element.ensures.next_fits)
