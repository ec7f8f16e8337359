use Rattle.rnix_edit.proofs.{OneChange.only_change, EditLemmas.not_in_text}
use Rattle.rnix_edit.proofs.parsed_edit.spliced.Goals as goal

pub returns-in-Ok-clause-made : goal.returns-in-Ok-clause-made
returns-in-Ok-clause-made c = only_change _ _ _ _ _ c.new-edits.ensures c.in-Ok.ensures.text c.in-Ok.ensures.added c.in_ok-apply-in-Ok.ensures

pub returns : goal.returns
returns c = record {
  made = tt;
  none = not_in_text c.args.text.now c.args.start c.args.end _ c.in-Err.error c.new-edits.ensures c.in_ok-refuse_memory-in-Err.ensures c.in-Err.ensures.refused;
}
