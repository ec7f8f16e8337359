use Rattle.{std.proofs.Common.{ap, sym, ◌∙◌, is_some}, rnix_green.specs.{Tree.Item, Relatives.located}, rnix_tree.proofs.RelativeLemmas.parent_if_any}
use Rattle.rnix_tree.proofs.RelativeLemmas.{token_has_parent}
use Rattle.rnix_tree.proofs.token.SyntaxToken.parent.Goals as goal

pub node_if-requires : goal.node_if-requires
node_if-requires c =
    let s = c.self.inside in
    parent_if_any s.green.now s.number c.element.result.parent c.self.invariant.is_there (sym (ap (λ (i : Item). i.parent) c.element.ensures.is))

pub returns-clause-some : goal.returns-clause-some
returns-clause-some c =
    let s = c.self.inside in
    ap is_some (c.node_if.ensures ∙ ap (λ (i : Item). located s.green.now i.parent) c.element.ensures.is)
    ∙ token_has_parent s.green.now s.number c.self.invariant.is_there c.self.invariant.is_token
