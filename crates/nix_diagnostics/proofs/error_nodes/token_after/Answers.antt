use Rattle.std.proofs.Common.{sym}
use Rattle.nix_diagnostics.proofs.FaultNodeLemmas.{near_found, near_in_tree}
use Rattle.nix_diagnostics.proofs.error_nodes.token_after.Goals as goal

pub returns-in-Some-clause-token : goal.returns-in-Some-clause-token
returns-in-Some-clause-token c =
    sym (near_found c.args.earlier.now c.args.root.now c.args.offset c.near_node.result c.in-Some.token c.requires.top c.requires.tree c.near_node.ensures
    c.in-Some.is)

pub returns-in-Some-clause-tree : goal.returns-in-Some-clause-tree
returns-in-Some-clause-tree c =
    near_in_tree c.args.earlier.now c.args.root.now c.args.offset c.near_node.result c.in-Some.token c.requires.tree c.near_node.ensures c.in-Some.is
