use Rattle.{std.proofs.Common.{ap, ◌∙◌}, rnix_grammar.specs.AnnotatedForest.head_of, rnix_reader.{specs.State.state, proofs.SkippedRuns.left_operand}}
use Rattle.rnix_reader.proofs.reading.start_operand.Goals as goal

pub stray-requires : goal.stray-requires
stray-requires c = ap head_of (left_operand _ _ (state c.args.p.now) _ c.in_ok-open_operand-in-Stray.ensures) ∙ c.requires
