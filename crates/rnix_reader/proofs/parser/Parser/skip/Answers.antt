use Rattle.{std.{proofs.Common.{sym, ap, ◌∙◌}, specs.Option.option_map}, rnix_grammar.specs.{AnnotatedForest.kind_in, Tables.stops}}
use Rattle.rnix_reader.{specs.{Placed.token_of, State.state}, proofs.{StateLemmas.item_there, SkippedRuns.{skip_turn, skip_end, skip_none, shorter}}}
use Rattle.rnix_reader.proofs.parser.Parser.skip.Goals as goal

pub returns-then-stops-clause-state : goal.returns-then-stops-clause-state
returns-then-stops-clause-state c =
    sym (skip_end c.args.until (state c.loop-item.self)
    (ap (λ x. stops c.args.until (kind_in x)) (item_there _ _ _ c.item.ensures c.in-Some.is) ∙ sym c.stops.ensures ∙ c.if-stops.true))
    ∙ c.loop-item.invariant.0

pub loop-item-smaller : goal.loop-item-smaller
loop-item-smaller c = shorter (token_of c.in-Some.item) (state c.loop-item.self) _ (item_there _ _ _ c.item.ensures c.in-Some.is) c.in_ok-bump.ensures.state

pub loop-item-preserved : goal.loop-item-preserved
loop-item-preserved c = (
  skip_turn c.args.until (token_of c.in-Some.item) (state c.loop-item.self) _ (item_there _ _ _ c.item.ensures c.in-Some.is)
      (sym c.stops.ensures ∙ c.if-stops.false)
      c.in_ok-bump.ensures.state
      ∙ c.loop-item.invariant.0,
  c.in_ok-bump.ensures.nodes ∙ c.loop-item.invariant.1,
)

pub returns-clause-state : goal.returns-clause-state
returns-clause-state c = sym (skip_none c.args.until (state c.loop-item.self) (sym c.item.ensures ∙ ap (option_map token_of) c.in_default.is))
    ∙ c.loop-item.invariant.0
