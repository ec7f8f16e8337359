use Rattle.std.proofs.{Common.{map, ap, sym, ◌∙◌, arith}, lemmas.List.{get_or-map, length-map}}
use Rattle.{nix_scopes.specs.Bound.{resolved_of}, rnix_c.{specs.NameCalls.{reference_of}, proofs.FilledLemmas.{filled-none, filled-more, filled-all}}}
use Rattle.rnix_c.proofs.names.fill_references.Goals as goal

pub loop-number-init : goal.loop-number-init
loop-number-init c = filled-none c.args.room.now

pub loop-number-preserved : goal.loop-number-preserved
loop-number-preserved c =
    let counts = length-map (map resolved_of c.args.references.now) reference_of in
    let names = length-map c.args.references.now resolved_of in
    let own = resolved_of c.index-references-number.result in
    filled-more c.loop-number.number (map reference_of (map resolved_of c.args.references.now)) c.args.room.now c.loop-number.room _
    (omega (arith, counts, names)) (omega arith)
    c.loop-number.invariant
    (c.reference_of.ensures ∙ ap (λ r. reference_of (resolved_of r)) c.index-references-number.is
    ∙ ap reference_of (sym (get_or-map resolved_of c.args.references.now c.loop-number.number _ own (omega arith)))
    ∙ sym (get_or-map reference_of (map resolved_of c.args.references.now) c.loop-number.number own _ (omega (arith, names))))

pub returns : goal.returns
returns c =
    c.loop-number.invariant
    ∙ filled-all c.loop-number.number (map reference_of (map resolved_of c.args.references.now)) c.args.room.now
    (omega (arith, length-map (map resolved_of c.args.references.now) reference_of, length-map c.args.references.now resolved_of))
