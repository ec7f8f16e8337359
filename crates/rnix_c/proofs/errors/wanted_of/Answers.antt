use Rattle.std.proofs.{Common.{map, replicate, sym, ◌∙◌, arith}, lemmas.List.{get_or-map, length-map}}
use Rattle.rnix_kinds.specs.SyntaxKind.{discriminant_of}
use Rattle.rnix_c.proofs.FilledLemmas.{filled-none, filled-more, filled-all}
use Rattle.rnix_c.proofs.errors.wanted_of.Goals as goal

pub loop-number-init : goal.loop-number-init
loop-number-init c = filled-none (replicate 16 255)

pub loop-number-preserved : goal.loop-number-preserved
loop-number-preserved c =
    filled-more c.loop-number.number (map discriminant_of c.args.kinds.now) (replicate 16 255) c.loop-number.wanted _
    (omega (arith, length-map c.args.kinds.now discriminant_of)) (omega arith)
    c.loop-number.invariant
    (sym (get_or-map discriminant_of c.args.kinds.now c.loop-number.number _ _ (omega arith)))

pub returns : goal.returns
returns c = c.loop-number.invariant
    ∙ filled-all c.loop-number.number (map discriminant_of c.args.kinds.now) (replicate 16 255) (omega (arith, length-map c.args.kinds.now discriminant_of))
