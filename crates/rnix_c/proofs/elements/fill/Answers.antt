use Rattle.std.proofs.{Common.{ap, sym, ◌∙◌, arith}, lemmas.List.{get_or-map, length-map}}
use Rattle.{rnix_green.specs.Tree.{items_of, no_item}, rnix_c.specs.Elements.{element_of, elements_of}, rnix_c.proofs.FilledLemmas.{filled-none, filled-more, filled-all}}
use Rattle.rnix_c.proofs.elements.fill.Goals as goal

pub loop-number-init : goal.loop-number-init
loop-number-init c = filled-none c.args.room.now

pub loop-number-preserved : goal.loop-number-preserved
loop-number-preserved c =
    filled-more c.loop-number.number (elements_of c.args.green.now) c.args.room.now c.loop-number.room _
    (omega (arith, length-map (items_of c.args.green.now) element_of)) (omega arith)
    c.loop-number.invariant
    (c.record_of.ensures ∙ ap element_of c.element.ensures.is
    ∙ sym (get_or-map element_of (items_of c.args.green.now) c.loop-number.number no_item _ (omega arith)))

pub returns : goal.returns
returns c = c.loop-number.invariant
    ∙ filled-all c.loop-number.number (elements_of c.args.green.now) c.args.room.now (omega (arith, length-map (items_of c.args.green.now) element_of))
