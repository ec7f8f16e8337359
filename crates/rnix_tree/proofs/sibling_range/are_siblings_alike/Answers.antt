use Rattle.std.proofs.Common.{◌+◌, ◌-◌, ap, arith}
use Rattle.rnix_green.specs.Tree.{Item}
use Rattle.rnix_tree.proofs.{SiblingWalks.is_sibling_range, SiblingsAlike.sibling_bounds}
use Rattle.rnix_tree.proofs.sibling_range.are_siblings_alike.Goals as goal

pub overflow_sub-other : goal.overflow_sub-other
overflow_sub-other c = omega (arith, (is_sibling_range c.args.other_green.now c.args.other c.requires.other).counted)

pub text_end-text_stop-requires-clause-holder : goal.text_end-text_stop-requires-clause-holder
text_end-text_stop-requires-clause-holder c = (is_sibling_range c.args.green.now c.args.siblings c.requires.siblings).holder_there

pub text_end-text_stop-requires-clause-end : goal.text_end-text_stop-requires-clause-end
text_end-text_stop-requires-clause-end c =
    let r = is_sibling_range c.args.green.now c.args.siblings c.requires.siblings in
    omega (arith, r.counted, r.is.there)

pub text_end-other_stop-requires-clause-holder : goal.text_end-other_stop-requires-clause-holder
text_end-other_stop-requires-clause-holder c = (is_sibling_range c.args.other_green.now c.args.other c.requires.other).holder_there

pub text_end-other_stop-requires-clause-end : goal.text_end-other_stop-requires-clause-end
text_end-other_stop-requires-clause-end c =
    let o = is_sibling_range c.args.other_green.now c.args.other c.requires.other in
    omega (arith, o.counted, o.is.there)

pub are_texts_alike-requires-clause-within : goal.are_texts_alike-requires-clause-within
are_texts_alike-requires-clause-within c =
    let t = c.args.green.now in
    let r = is_sibling_range t c.args.siblings c.requires.siblings in
    let range = sibling_bounds t c.requires.siblings.root c.args.siblings r c.args.end (omega (arith, c.requires.there)) in
    let start = ap (λ (i : Item). i.start) c.element.ensures.is in
    record {
      ordered = omega (arith, range.ordered, start, c.text_end-text_stop.ensures);
      within = omega (arith, range.within, c.text_end-text_stop.ensures);
    }

pub are_texts_alike-requires-clause-other_within : goal.are_texts_alike-requires-clause-other_within
are_texts_alike-requires-clause-other_within c =
    let u = c.args.other_green.now in
    let o = is_sibling_range u c.args.other c.requires.other in
    let n = c.args.other.first + (c.args.end - c.args.siblings.first) in
    let range = sibling_bounds u c.requires.other.root c.args.other o n (omega arith) in
    let start = ap (λ (i : Item). i.start) c.element-2.ensures.is in
    record {
      ordered = omega (arith, range.ordered, start, c.text_end-other_stop.ensures);
      within = omega (arith, range.within, c.text_end-other_stop.ensures);
    }

pub are_alike-requires-clause-fits : goal.are_alike-requires-clause-fits
are_alike-requires-clause-fits c = omega (arith, c.requires.there, c.requires.within, c.requires.siblings.fits)

pub are_alike-requires-clause-there : goal.are_alike-requires-clause-there
are_alike-requires-clause-there c =
    let r = is_sibling_range c.args.green.now c.args.siblings c.requires.siblings in
    omega (arith, r.counted, r.is.there, c.requires.there, c.requires.within)

pub are_alike-requires-clause-other_fits : goal.are_alike-requires-clause-other_fits
are_alike-requires-clause-other_fits c =
    let o = is_sibling_range c.args.other_green.now c.args.other c.requires.other in
    omega (arith, o.counted, c.if-count-other.false, c.requires.other.fits)

pub are_alike-requires-clause-other_there : goal.are_alike-requires-clause-other_there
are_alike-requires-clause-other_there c =
    let o = is_sibling_range c.args.other_green.now c.args.other c.requires.other in
    omega (arith, o.counted, o.is.there, c.if-count-other.false)
