use Rattle.{std.proofs.Common.{◌≡◌, ap, ◌∙◌}, rnix_grammar.specs.Tables.operand_kinds, rnix_reader.specs.{Placed.token_of, State.{state, failed}}}
use Rattle.rnix_reader.proofs.SkippedRuns.{item_in_order, stray_report}
use Rattle.rnix_reader.proofs.parser.Parser.stray.Goals as goal

pub new-range-requires : goal.new-range-requires
new-range-requires c = item_in_order (state c.args.self.now) (token_of c.args.first) c.ordered.ensures c.requires

pub returns : goal.returns
returns c =
    let wanted : c.in_ok-wanted.wanted.items ≡ operand_kinds = c.in_ok-wanted.ensures.items_if_clones_equal (λ x y e. e) ∙ c.operand_kinds.ensures in
    c.in_ok-fail.ensures ∙ ap (λ x. failed x (state c.leaf_node.new.self)) (stray_report (token_of c.args.first) _ _ c.new-range.ensures wanted)
    ∙ ap (failed _) c.in_ok-leaf_node.ensures.state
