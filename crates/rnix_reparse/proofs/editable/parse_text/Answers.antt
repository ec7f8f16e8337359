use Rattle.rnix_reparse.proofs.OwnTexts.{own_text, parsed_text}
use Rattle.rnix_reparse.proofs.editable.parse_text.Goals as goal

pub returns-clause-parsed : goal.returns-clause-parsed
returns-clause-parsed c = parsed_text c.args.text.now _ _ c.utf8.text c.in_ok-read.ensures

pub returns-clause-text : goal.returns-clause-text
returns-clause-text c = own_text c.args.text.now _ _ c.utf8.text c.in_ok-read.ensures
