use Rattle.std.proofs.{Common.{◌∙◌, ◌+◌, map, ap, arith}, Math.ListN.set, lemmas.List.Edits.paste_none}
use Rattle.rnix_green.{specs.SplicedElements.shifted, proofs.OverwrittenNodes.{one_pasted, all_pasted}}
use Rattle.rnix_green.proofs.in_place.write_shifted.Goals as goal

pub loop-index-init : goal.loop-index-init
loop-index-init c = paste_none c.args.elements.now c.args.from (map (shifted c.args.shift.now) c.args.moved.now)

pub loop-index-preserved : goal.loop-index-preserved
loop-index-preserved c =
    ap (λ z. set z (c.args.from + c.loop-index.index) c.shifted.result) c.loop-index.invariant
    ∙ one_pasted (shifted c.args.shift.now) c.args.elements.now c.args.moved.now c.args.from c.loop-index.index _ c.shifted.result c.requires.there
    (omega arith) c.shifted.ensures

pub returns : goal.returns
returns c =
    c.loop-index.invariant ∙ all_pasted (shifted c.args.shift.now) c.args.elements.now c.args.moved.now c.args.from c.loop-index.index (omega arith)
