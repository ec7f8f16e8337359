use Rattle.{std.{proofs.Common.{rules, ◌≤◌, ◌∙◌, ap, sym, subst, arith}, specs.Str.IsCharBoundary}, rnix_text.specs.declared.line_column.Mark.Mark}
use Rattle.rnix_text.{specs.Marks.position_after, proofs.PositionLemmas.{text_counted, column_fits}}
use Rattle.rnix_text.proofs.line_index.LineIndex.position.Goals as goal

pub position_of-requires-clause-order : goal.position_of-requires-clause-order
position_of-requires-clause-order c =
    let b : IsCharBoundary c.args.self.now.text c.args.offset = search rules in
    subst (λ (m : Mark). m.offset ≤ c.args.offset) (sym c.mark_before.ensures) (text_counted c.args.self.now c.args.offset b).order

pub position_of-requires-clause-fits : goal.position_of-requires-clause-fits
position_of-requires-clause-fits c =
    let b : IsCharBoundary c.args.self.now.text c.args.offset = search rules in
    let k = (text_counted c.args.self.now c.args.offset b).position in
    let at = ap (λ m. position_after m c.args.offset) c.mark_before.ensures ∙ k in
    omega (arith, ap (λ q. q.column) at, column_fits c.args.self.now c.args.offset b (search rules))

pub returns : goal.returns
returns c =
    let b : IsCharBoundary c.args.self.now.text c.args.offset = search rules in
    let k = (text_counted c.args.self.now c.args.offset b).position in
    (b, c.position_of.ensures ∙ ap (λ m. position_after m c.args.offset) c.mark_before.ensures ∙ k)
