-- A child contains fewer elements than its parent: the lemmas that a recursion over the tree cites.
pub use Rattle.rnix_tree.proofs.CountsInside.{children_fit, child_nodes_fit}
pub use Rattle.rnix_base.proofs.ChildrenFit.{selected_fit, child_fits, parts_fit}
