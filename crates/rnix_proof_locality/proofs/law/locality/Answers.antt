use Rattle.{std.proofs.Common.[], rnix_kinds.proofs.LexicalLemmas.Laws.AreSound-tokens_under, rnix_parser.specs.{Significant.significant, ReadAlike.items_of}}
use Rattle.rnix_proof_locality.{specs.ReadAlone.expressions_in, proofs.{DerivedExpressions.derived_expressions, TextsAlone.{read_each, read_parts}}}
use Rattle.rnix_proof_locality.proofs.law.locality.Goals as goal

pub returns-clause-parts : goal.returns-clause-parts
returns-clause-parts c = λ tree faults r d. derived_expressions (significant tree.children) (items_of c.args.first.now) d

pub returns-clause-alone : goal.returns-clause-alone
returns-clause-alone c = λ tree faults r d.
    read_parts c.args.first.now c.args.second.now (AreSound-tokens_under [] c.args.second.now c.utf8.second).named tree d

pub returns-clause-broken : goal.returns-clause-broken
returns-clause-broken c = λ tree faults r.
    read_each c.args.second.now (AreSound-tokens_under [] c.args.second.now c.utf8.second).named (expressions_in c.args.first.now tree)
