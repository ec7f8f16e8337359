use Rattle.std.proofs.{Common.{map, ap, sym, ◌∙◌, arith}, lemmas.List.{get_or-map, length-map}}
use Rattle.{rnix_c.{proofs.{FilledLemmas.{filled-none, filled-more, filled-all}, WrittenNames.{own_binding}}}}
use Rattle.rnix_c.proofs.names.fill_bindings.Goals as goal

pub loop-number-init : goal.loop-number-init
loop-number-init c = filled-none c.args.room.now

pub loop-number-preserved : goal.loop-number-preserved
loop-number-preserved c =
    filled-more c.loop-number.number (map own_binding c.args.bindings.now) c.args.room.now c.loop-number.room _
    (omega (arith, length-map c.args.bindings.now own_binding)) (omega arith)
    c.loop-number.invariant
    (c.binding_of.ensures ∙ ap own_binding c.index-bindings-number.is ∙ sym (get_or-map own_binding c.args.bindings.now c.loop-number.number _ _ (omega arith)))

pub returns : goal.returns
returns c = c.loop-number.invariant
    ∙ filled-all c.loop-number.number (map own_binding c.args.bindings.now) c.args.room.now (omega (arith, length-map c.args.bindings.now own_binding))
