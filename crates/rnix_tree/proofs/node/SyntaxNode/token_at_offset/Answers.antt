use Rattle.{std.proofs.Common.{ap, sym, subst, arith}, rnix_green.specs.{Tree.Item, Relatives.IsNodeIn}, rnix_tree.specs.Offset.IsTouched}
use Rattle.rnix_tree.proofs.OffsetLemmas.{touched_inside}
use Rattle.rnix_tree.proofs.node.SyntaxNode.token_at_offset.Goals as goal

pub returns-then-element : goal.returns-then-element
returns-then-element c m h =
    let t = c.self.inside.green.now in
    let n = c.self.inside.number in
    let node : IsNodeIn t n = record { is_there = c.self.invariant.is_there; is_node = c.self.invariant.is_node } in
    let w = touched_inside t n c.args.offset m node (subst (λ e. IsTouched e c.args.offset m) (sym c.self.view_is) h) in
    let start = ap (λ (i : Item). i.start) c.element-element.ensures.is in
    let end = ap (λ (i : Item). i.end) c.element-element.ensures.is in
    omega (arith, w.0, w.1, w.2, start, end, c.if-element.either)
