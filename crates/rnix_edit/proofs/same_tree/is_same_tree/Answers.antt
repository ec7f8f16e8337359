use Rattle.rnix_edit.proofs.SameTreeLemmas.{same_trees}
use Rattle.rnix_edit.proofs.same_tree.is_same_tree.Goals as goal

pub returns : goal.returns
returns c =
    same_trees c.args.node.now c.args.other.now _ _ _ c.preorder_with_tokens.ensures.walk c.preorder_with_tokens-2.ensures.walk c.are_alike.ensures
