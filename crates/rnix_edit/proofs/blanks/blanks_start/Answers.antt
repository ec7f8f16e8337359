use Rattle.std.proofs.Common.{◌∙◌, sym}
use Rattle.rnix_edit.proofs.BlankLemmas.{blank_inside, blank_passed, blanks_passed}
use Rattle.rnix_edit.proofs.blanks.blanks_start.Goals as goal

pub overflow_sub-start : goal.overflow_sub-start
overflow_sub-start c = blank_inside c.args.text.now c.loop-start.start (sym c.has_blank_before.ensures ∙ c.loop-start-test.true)

pub loop-start-preserved : goal.loop-start-preserved
loop-start-preserved c =
    blank_passed c.args.text.now c.loop-start.start (sym c.has_blank_before.ensures ∙ c.loop-start-test.true) ∙ c.loop-start.invariant

pub returns : goal.returns
returns c = blanks_passed c.args.text.now c.loop-start.start (sym c.has_blank_before.ensures ∙ c.loop-start-test.false) ∙ c.loop-start.invariant
