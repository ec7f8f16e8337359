use Rattle.nix_diagnostics.proofs.FaultNodeLemmas.{from_another, first_in_tree, first_is_token}
use Rattle.nix_diagnostics.proofs.error_nodes.near_node.Goals as goal

pub returns-in-Some : goal.returns-in-Some
returns-in-Some c =
    from_another c.in-Some.first c.args.earlier.now c.args.offset c.near_token.result
    (first_in_tree c.args.earlier.now c.first_token.result c.in-Some.first c.first_token.ensures c.in-Some.is) c.near_token.ensures

pub near_token-requires : goal.near_token-requires
near_token-requires c =
    first_is_token c.args.earlier.now c.first_token.result c.in-Some.first c.first_token.ensures c.in-Some.is
