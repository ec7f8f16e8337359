use Rattle.{std.proofs.Common.[], rnix_kinds.proofs.LexicalLemmas.Laws.AreSound-tokens_under}
use Rattle.rnix_proof_lookahead.proofs.AheadTexts.{same_completed, same_errors_before}
use Rattle.rnix_proof_lookahead.proofs.law.lookahead.Goals as goal

pub returns-clause-trees : goal.returns-clause-trees
returns-clause-trees c =
    same_completed c.args.first.now c.args.second.now (AreSound-tokens_under [] c.args.first.now c.utf8.first).named
    (AreSound-tokens_under [] c.args.second.now c.utf8.second).named

pub returns-clause-errors : goal.returns-clause-errors
returns-clause-errors c = same_errors_before c.args.first.now c.args.second.now
