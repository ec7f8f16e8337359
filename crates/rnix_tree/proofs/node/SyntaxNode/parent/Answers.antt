use Rattle.{std.proofs.Common.{ap, sym}, rnix_green.specs.Tree.Item, rnix_tree.proofs.RelativeLemmas.parent_if_any}
use Rattle.rnix_tree.proofs.node.SyntaxNode.parent.Goals as goal

pub node_if-requires : goal.node_if-requires
node_if-requires c =
    let s = c.self.inside in
    parent_if_any s.green.now s.number c.element.result.parent c.self.invariant.is_there (sym (ap (λ (i : Item). i.parent) c.element.ensures.is))
