use Rattle.{std.proofs.{Common.{◌≡◌, Some, ap, sym, subst, arith}, lemmas.Bool.both_ways}, rnix_text.{specs.Positions.IsAt, proofs.MarkOffsets.Leads}}
use Rattle.rnix_text.proofs.MarkOffsets.{text_led}
use Rattle.rnix_text.proofs.line_index.LineIndex.offset.Goals as goal

pub returns-then-is_at-clause-only : goal.returns-then-is_at-clause-only
returns-then-is_at-clause-only c o h =
    let l : Leads o c.args.position c.mark_up_to-mark.result =
    subst (Leads o c.args.position) (sym c.mark_up_to-mark.ensures.mark) (text_led c.args.self.now c.args.position o h) in
    let same : c.saturating_add-offset.result ≡ o =
    grind (arith, c.saturating_add-offset.ensures, c.saturating_sub-columns.ensures, l.offset, l.column, h.0.0, c.mark_up_to-mark.ensures.fits) in
    ap (λ x. Some x) same

pub returns-else-is_at-clause-only : goal.returns-else-is_at-clause-only
returns-else-is_at-clause-only c o h =
    let l : Leads o c.args.position c.mark_up_to-mark.result =
    subst (Leads o c.args.position) (sym c.mark_up_to-mark.ensures.mark) (text_led c.args.self.now c.args.position o h) in
    let same : c.saturating_add-offset.result ≡ o =
    grind (arith, c.saturating_add-offset.ensures, c.saturating_sub-columns.ensures, l.offset, l.column, h.0.0, c.mark_up_to-mark.ensures.fits) in
    let yes = c.is_at.ensures.1 (subst (IsAt c.args.self.now.unit c.args.self.now.text c.args.position) (sym same) h) in
    absurd (both_ways c.is_at.result c.if-is_at.false yes)
