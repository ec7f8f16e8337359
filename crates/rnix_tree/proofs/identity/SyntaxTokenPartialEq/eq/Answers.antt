use Rattle.{std.proofs.Common.◌∙◌, rnix_tree.{specs.Same.same_located, proofs.EqualElements.same_where}}
use Rattle.rnix_tree.proofs.identity.SyntaxTokenPartialEq.eq.Goals as goal

pub returns-then-self-other : goal.returns-then-self-other
returns-then-self-other c =
    let a = c.self.inside in
    let b = c.other.inside in
    same_where a.green.now b.green.now a.number b.number c.is_same.result c.is_same.ensures c.if-self-other.true
    ∙ (λ i. same_located (c.self.view_is i) (c.other.view_is i))
