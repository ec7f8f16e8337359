use Rattle.{std.proofs.Common.{◌∙◌, ap, sym}, rnix_base.{specs.Indent.indent_behind, proofs.IndentLemmas.passes_line}}
use Rattle.rnix_base.proofs.indent.Indent.behind.Goals as goal

pub loop-first-preserved : goal.loop-first-preserved
loop-first-preserved c =
    let indent = c.after-indent.result in
    c.loop-first.invariant ∙ ap (indent_behind c.loop-first.indent) c.in-Some.ensures.cases.0
    ∙ ap (λ i. indent_behind i c.in-Some.more.now) (sym c.after-indent.ensures)
    ∙ passes_line indent c.in-Some.more.now c.in-None.is
    ∙ ap (indent_behind indent) (sym c.line_end-rest.ensures)
