use Rattle.{std.proofs.Common.{◌≡◌, ◌<◌, ◌∙◌, Some, length, sym, ap, arith}, rnix_green.{specs.Tree.{Item, items_of, item}, proofs.InsideLemmas.below_parent}}
use Rattle.rnix_tree.proofs.RelativeLemmas.{no_prev_of_root, no_prev, prev_there}
use Rattle.rnix_tree.proofs.relatives.prev_sibling.Goals as goal

pub returns-in_default : goal.returns-in_default
returns-in_default c =
    no_prev_of_root c.args.green.now c.args.number c.requires (sym (ap (λ (i : Item). i.parent) c.element.ensures.is) ∙ c.in_default.is)

pub overflow_sub-number : goal.overflow_sub-number
overflow_sub-number c =
    let parent : (item c.args.green.now c.args.number).parent ≡ Some c.in-Some.parent = sym (ap (λ (i : Item). i.parent) c.element.ensures.is) ∙ c.in-Some.is in
    let below = below_parent c.args.green.now c.args.number c.in-Some.parent c.requires parent in
    omega (arith, below.low)

pub child_over-requires-clause-there : goal.child_over-requires-clause-there
child_over-requires-clause-there c =
    let parent : (item c.args.green.now c.args.number).parent ≡ Some c.in-Some.parent = sym (ap (λ (i : Item). i.parent) c.element.ensures.is) ∙ c.in-Some.is in
    let below = below_parent c.args.green.now c.args.number c.in-Some.parent c.requires parent in
    let there : c.in-Some.parent < length (items_of c.args.green.now) = omega (arith, below.low, c.requires) in
    there

pub child_over-requires-clause-low : goal.child_over-requires-clause-low
child_over-requires-clause-low c =
    let parent : (item c.args.green.now c.args.number).parent ≡ Some c.in-Some.parent = sym (ap (λ (i : Item). i.parent) c.element.ensures.is) ∙ c.in-Some.is in
    let below = below_parent c.args.green.now c.args.number c.in-Some.parent c.requires parent in
    omega (arith, below.low, c.if-number-parent.false)

pub child_over-requires-clause-high : goal.child_over-requires-clause-high
child_over-requires-clause-high c =
    let parent : (item c.args.green.now c.args.number).parent ≡ Some c.in-Some.parent = sym (ap (λ (i : Item). i.parent) c.element.ensures.is) ∙ c.in-Some.is in
    let below = below_parent c.args.green.now c.args.number c.in-Some.parent c.requires parent in
    omega (arith, below.high)

pub returns-then-number-parent : goal.returns-then-number-parent
returns-then-number-parent c =
    let parent : (item c.args.green.now c.args.number).parent ≡ Some c.in-Some.parent = sym (ap (λ (i : Item). i.parent) c.element.ensures.is) ∙ c.in-Some.is in
    no_prev c.args.green.now c.args.number c.requires c.in-Some.parent parent c.if-number-parent.true

pub returns-else-number-parent : goal.returns-else-number-parent
returns-else-number-parent c =
    let parent : (item c.args.green.now c.args.number).parent ≡ Some c.in-Some.parent = sym (ap (λ (i : Item). i.parent) c.element.ensures.is) ∙ c.in-Some.is in
    let below = below_parent c.args.green.now c.args.number c.in-Some.parent c.requires parent in
    prev_there c.args.green.now c.args.number c.requires c.in-Some.parent c.child_over.result parent (omega (arith, below.low)) c.child_over.ensures
