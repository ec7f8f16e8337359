use Rattle.std.proofs.Common.{◌+◌, ap, sym, ◌∙◌, subst, arith}
use Rattle.{rnix_green.specs.{Range.{Extent, bounds_of}, Tree.Located}, rnix_tree.specs.{Covering.holds, Offset.IsHolding}}
use Rattle.rnix_tree.proofs.CoveringLemmas.{reached_none, reached_end, reached_child, reached_token}
use Rattle.rnix_tree.proofs.covering.innermost.Goals as goal

pub returns-then-not-contains-clause-is : goal.returns-then-not-contains-clause-is
returns-then-not-contains-clause-is c =
    let start = ap (λ (e : Extent). e.start) c.range_of.ensures in
    let end = ap (λ (e : Extent). e.end) c.range_of.ensures in
    reached_none c.args.green.now (bounds_of c.args.range) c.args.number c.args.number c.requires (λ within.
    let true_of_false = c.if-not-contains.ensures.1 (omega (arith, start, c.start.ensures, within.0), omega (arith, end, c.start.ensures, within.1)) in
    cc)

pub returns-then-not-holds-clause-is : goal.returns-then-not-holds-clause-is
returns-then-not-holds-clause-is c =
    let range = bounds_of c.args.range in
    let e : Located = record { tree = c.args.green.now; number = c.args.number } in
    let held = subst (λ s. IsHolding e (s + 1) c.token_before-token.result) c.start-2.ensures c.token_before-token.ensures.token in
    let fails = ap (holds range) (sym c.range_of-in-loop-reached.ensures) ∙ sym c.holds.ensures ∙ c.if-not-holds.true in
    reached_end c.args.green.now range c.args.number c.token_before-token.result c.loop-reached.reached c.child_towards-child.result
    c.loop-reached.invariant held c.child_towards-child.ensures fails

pub loop-reached-preserved : goal.loop-reached-preserved
loop-reached-preserved c =
    let range = bounds_of c.args.range in
    let passes = ap (holds range) (sym c.range_of-in-loop-reached.ensures) ∙ sym c.holds.ensures ∙ c.if-not-holds.false in
    reached_child c.args.green.now range c.args.number c.token_before-token.result c.loop-reached.reached c.child_towards-child.result
    c.loop-reached.invariant c.child_towards-child.ensures passes

pub returns-clause-is : goal.returns-clause-is
returns-clause-is c =
    let e : Located = record { tree = c.args.green.now; number = c.args.number } in
    let held = subst (λ s. IsHolding e (s + 1) c.token_before-token.result) c.start-2.ensures c.token_before-token.ensures.token in
    reached_token c.args.green.now (bounds_of c.args.range) c.args.number c.token_before-token.result c.loop-reached.reached c.loop-reached.invariant
    held c.loop-reached-test.false
