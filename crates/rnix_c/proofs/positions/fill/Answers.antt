use Rattle.std.proofs.{Common.{sym, ◌∙◌, arith}, lemmas.List.{get_or-map, length-map}}
use Rattle.rnix_c.{specs.PositionCalls.{position_of, positions_of}, proofs.FilledLemmas.{filled-none, filled-more, filled-all}}
use Rattle.rnix_c.proofs.positions.fill.Goals as goal

pub loop-number-init : goal.loop-number-init
loop-number-init c = filled-none c.args.room.now

pub loop-number-preserved : goal.loop-number-preserved
loop-number-preserved c =
    let position = position_of c.args.index.now.unit c.args.index.now.text in
    filled-more c.loop-number.number (positions_of c.args.index.now.unit c.args.index.now.text c.args.offsets.now) c.args.room.now c.loop-number.room _
    (omega (arith, length-map c.args.offsets.now position)) (omega arith) c.loop-number.invariant
    (c.position_of.ensures ∙ sym (get_or-map position c.args.offsets.now c.loop-number.number _ _ (omega arith)))

pub returns : goal.returns
returns c =
    let position = position_of c.args.index.now.unit c.args.index.now.text in
    c.loop-number.invariant ∙ filled-all c.loop-number.number (positions_of c.args.index.now.unit c.args.index.now.text c.args.offsets.now) c.args.room.now
    (omega (arith, length-map c.args.offsets.now position))
