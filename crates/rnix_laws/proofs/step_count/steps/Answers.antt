use Rattle.{std.proofs.Common.[], rnix_kinds.{proofs.LexicalLemmas.Laws.AreSound-tokens_under, specs.Lexical.Tokens.tokens_of}}
use Rattle.rnix_laws.proofs.FewSteps.{read_by_items, read_by_levels}
use Rattle.rnix_laws.proofs.step_count.steps.Goals as goal

pub returns-clause-items : goal.returns-clause-items
returns-clause-items c = λ tree faults r.
    read_by_items (tokens_of c.args.text.now) tree faults (AreSound-tokens_under [] c.args.text.now c.utf8.text).named r

pub returns-clause-levels : goal.returns-clause-levels
returns-clause-levels c = λ tree faults r.
    read_by_levels (tokens_of c.args.text.now) tree faults (AreSound-tokens_under [] c.args.text.now c.utf8.text).named r
