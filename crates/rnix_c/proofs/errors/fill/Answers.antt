use Rattle.std.proofs.{Common.{map, ap, sym, ◌∙◌, arith}, lemmas.List.{get_or-map, get_or_default, length-map}}
use Rattle.{rnix_grammar.specs.Fault.{fault_of}, rnix_grammar.specs.declared.error.ParseError.TheVariants.{UnexpectedEOF}}
use Rattle.rnix_c.{specs.Errors.{error_of, errors_of}, proofs.FilledLemmas.{filled-none, filled-more, filled-all}}
use Rattle.rnix_c.proofs.errors.fill.Goals as goal

pub loop-number-init : goal.loop-number-init
loop-number-init c = filled-none c.args.room.now

pub loop-number-preserved : goal.loop-number-preserved
loop-number-preserved c =
    let counts = length-map (map fault_of c.args.errors.now) error_of in
    let faults = length-map c.args.errors.now fault_of in
    filled-more c.loop-number.number (errors_of (map fault_of c.args.errors.now)) c.args.room.now c.loop-number.room _ (omega (arith, counts, faults))
    (omega arith)
    c.loop-number.invariant
    (c.record_of.ensures
    ∙ ap (λ e. error_of (fault_of e)) (c.index-errors-number.is ∙ get_or_default c.args.errors.now c.loop-number.number _ UnexpectedEOF (omega arith))
    ∙ ap error_of (sym (get_or-map fault_of c.args.errors.now c.loop-number.number UnexpectedEOF (fault_of UnexpectedEOF) (omega arith)))
    ∙ sym (get_or-map error_of (map fault_of c.args.errors.now) c.loop-number.number (fault_of UnexpectedEOF) _ (omega (arith, faults))))

pub returns : goal.returns
returns c = c.loop-number.invariant ∙ filled-all c.loop-number.number (errors_of (map fault_of c.args.errors.now)) c.args.room.now
    (omega (arith, length-map (map fault_of c.args.errors.now) error_of, length-map c.args.errors.now fault_of))
