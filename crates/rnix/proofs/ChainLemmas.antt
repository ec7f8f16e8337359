-- A chain of calls, each on the result of the one before, ends: the lemmas that a loop along it cites.
pub use Rattle.rnix_tree.proofs.ChainsFall.{next_falls, next_node_falls, next_token_falls, prev_falls, prev_node_falls, prev_token_falls}
pub use Rattle.rnix_tree.proofs.ChainsFall.{parent_falls, first_child_falls, first_child_node_falls, last_child_falls, last_child_node_falls}
pub use Rattle.rnix_base.proofs.ChildrenFit.{child_falls}
