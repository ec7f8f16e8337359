use Rattle.{std.proofs.Common.{◌≡◌, ap, arith}, rnix_green.specs.Tree.{Item, item}, rnix_tree.proofs.OffsetLemmas.{only_last, last_is_token}}
use Rattle.rnix_tree.proofs.offset.token_before.Goals as goal

pub returns-clause-token : goal.returns-clause-token
returns-clause-token c =
    let t = c.args.green.now in
    let n = c.args.number in
    let same : c.element-element.result.below ≡ (item t n).below = ap (λ (i : Item). i.below) c.element-element.ensures.is in
    last_is_token t n c.args.offset c.requires.node c.first_from.result c.first_from.ensures.before
    (λ m low high. c.first_from.ensures.behind m low (omega (arith, high, same)))
    (omega (arith, c.first_from.ensures.high, same)) c.requires.low c.requires.high

pub returns-clause-only : goal.returns-clause-only
returns-clause-only c =
    let t = c.args.green.now in
    let n = c.args.number in
    let same : c.element-element.result.below ≡ (item t n).below = ap (λ (i : Item). i.below) c.element-element.ensures.is in
    only_last t n c.args.offset c.requires.node c.first_from.result c.first_from.ensures.before
    (λ m low high. c.first_from.ensures.behind m low (omega (arith, high, same)))
    (omega (arith, c.first_from.ensures.high, same))
