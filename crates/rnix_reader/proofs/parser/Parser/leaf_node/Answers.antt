use Rattle.{std.proofs.Common.{ap, refl, ◌∙◌}, rnix_green.specs.{Draft.{leaf_added, node_opened, node_closed}, Forest.tree_count}}
use Rattle.rnix_reader.{specs.{Placed.token_of, State.state}, proofs.{OperandStartLemmas.leaf_nodes, StateLemmas.{first_there, none_there, leaf_node_made-item, leaf_node_made-end}}}
use Rattle.rnix_reader.proofs.TextRemaining.{next_text}
use Rattle.rnix_reader.proofs.parser.Parser.leaf_node.Goals as goal

pub leaf_node-requires : goal.leaf_node-requires
leaf_node-requires c = next_text _ _ (token_of c.in-Some.token) c.eat_trivia.new.self.remaining (first_there _ _ _ c.token.ensures c.in-Some.is)

pub returns-in-Some-clause-state : goal.returns-in-Some-clause-state
returns-in-Some-clause-state c =
    let b = c.eat_trivia.new.self.builder.draft in
    leaf_node_made-item c.args.kind (state c.args.self.now) (state c.eat_trivia.new.self) _ (token_of c.in-Some.token) _ c.in_ok-eat_trivia.ensures.state
    (first_there _ _ _ c.token.ensures c.in-Some.is)
    (ap (λ x. x.draft) c.in_ok-leaf_node.ensures.ok ∙ ap (λ k. node_closed
    (leaf_added k c.in-Some.token.text.now (node_opened c.args.kind (tree_count b.finished) b))) c.leaf_kind_as-leaf_kind.ensures)
    c.advance.ensures refl refl refl refl refl

pub returns-clause-state : goal.returns-clause-state
returns-clause-state c =
    leaf_node_made-end c.args.kind (state c.args.self.now) (state c.eat_trivia.new.self) _ _ _ c.in_ok-eat_trivia.ensures.state
    (none_there _ _ c.token.ensures c.in_default.is)
    (ap (λ x. x.draft) c.in_ok-start_node.ensures.ok) refl refl refl refl refl refl c.in_ok-finish_node.ensures

pub returns-clause-nodes : goal.returns-clause-nodes
returns-clause-nodes c = leaf_nodes c.args.kind (state c.args.self.now) _ (returns-clause-state c)
