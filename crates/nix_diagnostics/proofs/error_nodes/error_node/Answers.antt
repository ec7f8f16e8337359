use Rattle.std.proofs.Common.{◌∙◌, ap, sym}
use Rattle.rnix_green.specs.Tree.{Located}
use Rattle.nix_diagnostics.specs.FaultNodes.{error_at}
use Rattle.nix_diagnostics.proofs.FaultNodeLemmas.{value_in_tree}
use Rattle.nix_diagnostics.proofs.error_nodes.error_node.Goals as goal

pub returns-in-Some-clause-node : goal.returns-in-Some-clause-node
returns-in-Some-clause-node c =
    sym c.in-Some.is ∙ c.error_at.ensures.node ∙ ap (error_at c.args.root.now) c.node_range.ensures

pub returns-in-Some-clause-earlier : goal.returns-in-Some-clause-earlier
returns-in-Some-clause-earlier c =
    ap (λ (e : Located). e.tree) c.clone.ensures
    ∙ value_in_tree c.args.root.now c.error_at.result c.in-Some.node c.error_at.ensures.tree c.in-Some.is

pub returns-in-None-clause-node : goal.returns-in-None-clause-node
returns-in-None-clause-node c =
    sym c.in-None.is ∙ c.error_at.ensures.node ∙ ap (error_at c.args.root.now) c.node_range.ensures
