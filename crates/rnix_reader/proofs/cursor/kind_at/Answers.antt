use Rattle.{std.proofs.Common.{ap, sym, arith}, rnix_grammar.specs.AnnotatedForest.head_kind, rnix_reader.proofs.CursorLemmas.{at_offset, behind_all}}
use Rattle.rnix_reader.proofs.cursor.kind_at.Goals as goal

pub returns-then-at-tokens : goal.returns-then-at-tokens
returns-then-at-tokens c text = sym (ap head_kind (at_offset text 0 c.args.tokens.now c.args.at _ c.if-at-tokens.true))

pub returns : goal.returns
returns c text = sym (ap head_kind (behind_all text c.args.tokens.now c.args.at (omega (arith, c.if-at-tokens.false))))
