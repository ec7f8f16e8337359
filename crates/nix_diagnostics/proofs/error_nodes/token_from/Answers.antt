use Rattle.std.proofs.Common.{◌∙◌, sym}
use Rattle.nix_diagnostics.proofs.FaultNodeLemmas.{right_starts, none_starts, right_in_tree, in_tree_too}
use Rattle.nix_diagnostics.proofs.error_nodes.token_from.Goals as goal

pub returns-in-Some-clause-token : goal.returns-in-Some-clause-token
returns-in-Some-clause-token c =
    c.if_from.ensures.token ∙ sym (right_starts c.args.root.now c.args.offset c.token_at_offset.result c.in-Some.token c.requires c.token_at_offset.ensures
    (sym c.right_biased.ensures ∙ c.in-Some.is))

pub returns-in-Some-clause-tree : goal.returns-in-Some-clause-tree
returns-in-Some-clause-tree c =
    in_tree_too c.in-Some.token c.args.root.now c.if_from.result
    (right_in_tree c.args.root.now c.args.offset c.token_at_offset.result c.in-Some.token c.token_at_offset.ensures
    (sym c.right_biased.ensures ∙ c.in-Some.is)) c.if_from.ensures.tree

pub returns-in-None-clause-token : goal.returns-in-None-clause-token
returns-in-None-clause-token c =
    sym (none_starts c.args.root.now c.args.offset c.token_at_offset.result c.requires c.token_at_offset.ensures
    (sym c.right_biased.ensures ∙ c.in-None.is))
