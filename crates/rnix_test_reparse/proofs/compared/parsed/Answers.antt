use Rattle.rnix_reparse.proofs.OwnTexts.{parsed_text}
use Rattle.rnix_test_reparse.proofs.compared.parsed.Goals as goal

pub returns : goal.returns
returns c =
    let parse = c.in_ok-parse.parse in
    parsed_text c.args.text.now parse.tree parse.faults c.utf8.text c.in_ok-parse.ensures
