use Rattle.std.proofs.{Common.{◌<◌, ◌^◌, length, ap, sym, ◌∙◌, arith}, lemmas.List.{get_or-map, length-map}}
use Rattle.rnix_green.specs.Tree.{Item, items_of, no_item}
use Rattle.rnix_c.{specs.CompactElements.{range_of, link_of, ranges_of, links_of}, proofs.FilledLemmas.{filled-none, filled-next, filled-all}}
use Rattle.rnix_c.proofs.ShortTrees.{short_start, short_end, short_parent, short_below}
use Rattle.rnix_c.proofs.compact.fill.Goals as goal

pub loop-number-init : goal.loop-number-init
loop-number-init c = record { ranges = filled-none c.args.ranges.now; links = filled-none c.args.links.now }

pub range_of-requires-clause-start : goal.range_of-requires-clause-start
range_of-requires-clause-start c =
    let there : c.loop-number.number < length (items_of c.args.green.now) = omega (arith, c.requires.count) in
    let short = short_start c.args.green.now c.loop-number.number there c.requires.short in
    omega (arith, short, ap (λ (i : Item). i.start) c.element-element.ensures.is)

pub range_of-requires-clause-end : goal.range_of-requires-clause-end
range_of-requires-clause-end c =
    let there : c.loop-number.number < length (items_of c.args.green.now) = omega (arith, c.requires.count) in
    let short = short_end c.args.green.now c.loop-number.number there c.requires.short in
    omega (arith, short, ap (λ (i : Item). i.end) c.element-element.ensures.is)

pub link_of-requires-clause-parent : goal.link_of-requires-clause-parent
link_of-requires-clause-parent c =
    let there : c.loop-number.number < length (items_of c.args.green.now) = omega (arith, c.requires.count) in
    let few : length (items_of c.args.green.now) < 2 ^ 32 = omega (arith, c.requires.count, c.requires.few) in
    rw (ap (λ (i : Item). i.parent) c.element-element.ensures.is) (short_parent c.args.green.now c.loop-number.number there few)

pub link_of-requires-clause-below : goal.link_of-requires-clause-below
link_of-requires-clause-below c =
    let there : c.loop-number.number < length (items_of c.args.green.now) = omega (arith, c.requires.count) in
    let few : length (items_of c.args.green.now) < 2 ^ 32 = omega (arith, c.requires.count, c.requires.few) in
    omega (arith, short_below c.args.green.now c.loop-number.number there few, ap (λ (i : Item). i.below) c.element-element.ensures.is)

pub loop-number-preserved : goal.loop-number-preserved
loop-number-preserved c =
    let t = c.args.green.now in
    let n = c.loop-number.number in
    let there : n < length (items_of t) = omega (arith, c.requires.count) in
    record {
      ranges = c.put.ensures ∙ filled-next n (ranges_of t) c.args.ranges.now c.loop-number.ranges _
          (omega (arith, there, length-map (items_of t) range_of)) c.loop-number.invariant.ranges
          (c.range_of.ensures ∙ ap range_of c.element-element.ensures.is ∙ sym (get_or-map range_of (items_of t) n no_item _ there));
      links = c.put-in-loop-number.ensures ∙ filled-next n (links_of t) c.args.links.now c.loop-number.links _
          (omega (arith, there, length-map (items_of t) link_of)) c.loop-number.invariant.links
          (c.link_of.ensures ∙ ap link_of c.element-element.ensures.is ∙ sym (get_or-map link_of (items_of t) n no_item _ there));
    }

pub returns-clause-ranges : goal.returns-clause-ranges
returns-clause-ranges c = c.loop-number.invariant.ranges ∙ filled-all c.loop-number.number (ranges_of c.args.green.now) c.args.ranges.now
    (omega (arith, c.requires.count, length-map (items_of c.args.green.now) range_of))

pub returns-clause-links : goal.returns-clause-links
returns-clause-links c = c.loop-number.invariant.links ∙ filled-all c.loop-number.number (links_of c.args.green.now) c.args.links.now
    (omega (arith, c.requires.count, length-map (items_of c.args.green.now) link_of))
