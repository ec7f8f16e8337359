use Rattle.std.proofs.Common.{◌+◌, Some, ap, sym, ◌∙◌, subst, arith}
use Rattle.{rnix_green.specs.{Range.{Extent, bounds_of}, Tree.{Located}, Relatives.IsNodeIn}, rnix_tree.specs.{Covering.{holds, child_at_range}, Offset.IsHolding}}
use Rattle.rnix_tree.proofs.CoveringLemmas.{range_outside, range_in_child, range_in_none, token_held}
use Rattle.rnix_tree.proofs.node.SyntaxNode.child_or_token_at_range.Goals as goal

pub returns-then-not-contains : goal.returns-then-not-contains
returns-then-not-contains c =
    let range = bounds_of c.args.range in
    let node : IsNodeIn c.self.inside.green.now c.self.inside.number =
    record { is_there = c.self.invariant.is_there; is_node = c.self.invariant.is_node } in
    let start = ap (λ (e : Extent). e.start) c.range_of.ensures in
    let end = ap (λ (e : Extent). e.end) c.range_of.ensures in
    sym (range_outside range c.self.inside.green.now c.self.inside.number node (λ within.
    let true_of_false = c.if-not-contains.ensures.1 (omega (arith, start, c.start.ensures, within.0), omega (arith, end, c.start.ensures, within.1)) in
    cc))
    ∙ ap (child_at_range range) c.self.view_is

pub returns-then-holds : goal.returns-then-holds
returns-then-holds c =
    let t = c.self.inside.green.now in
    let n = c.self.inside.number in
    let range = bounds_of c.args.range in
    let e : Located = record { tree = t; number = n } in
    let held = subst (λ s. IsHolding e (s + 1) c.token_before-token.result) c.start-2.ensures c.token_before-token.ensures.token in
    let passes = ap (holds range) (sym c.range_of-2.ensures) ∙ sym c.holds.ensures ∙ c.if-holds.true in
    ap Some c.element_at.ensures.spot
    ∙ sym (range_in_child range t n c.token_before-token.result c.child_towards-child.result c.self.invariant.is_there
    (token_held t n range.start c.token_before-token.result held) c.child_towards-child.ensures passes)
    ∙ ap (child_at_range range) c.self.view_is

pub returns-else-holds : goal.returns-else-holds
returns-else-holds c =
    let t = c.self.inside.green.now in
    let n = c.self.inside.number in
    let range = bounds_of c.args.range in
    let e : Located = record { tree = t; number = n } in
    let held = subst (λ s. IsHolding e (s + 1) c.token_before-token.result) c.start-2.ensures c.token_before-token.ensures.token in
    let fails = ap (holds range) (sym c.range_of-2.ensures) ∙ sym c.holds.ensures ∙ c.if-holds.false in
    sym (range_in_none range t n c.token_before-token.result c.child_towards-child.result c.self.invariant.is_there
    (token_held t n range.start c.token_before-token.result held) c.child_towards-child.ensures fails)
    ∙ ap (child_at_range range) c.self.view_is
