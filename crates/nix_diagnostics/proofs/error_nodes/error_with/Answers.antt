use Rattle.std.proofs.Common.{◌∙◌, ap, sym, subst}
use Rattle.std.specs.Prelude.{IfSome}
use Rattle.rnix_green.specs.Range.{bounds_of}
use Rattle.rnix.specs.WholeTree.{IsInTree}
use Rattle.nix_diagnostics.specs.FaultNodes.{token_from, if_error}
use Rattle.nix_diagnostics.proofs.FaultNodeLemmas.{error_there, no_error_there, kept_in_tree, parent_in_tree, value_in_tree}
use Rattle.nix_diagnostics.proofs.error_nodes.error_with.Goals as goal

pub returns-in-Some-clause-node : goal.returns-in-Some-clause-node
returns-in-Some-clause-node c =
    c.if_error.ensures ∙ ap (if_error (bounds_of c.args.range)) c.parent.ensures.parent
    ∙ sym (error_there c.args.root.now (bounds_of c.args.range) c.in-Some.token
    (ap (token_from c.args.root.now) (sym c.start.ensures) ∙ sym c.token_after.ensures.token ∙ c.in-Some.is))

pub returns-in-Some-clause-tree : goal.returns-in-Some-clause-tree
returns-in-Some-clause-tree c =
    let root = c.args.root.now in
    let token = c.in-Some.token in
    let inside = value_in_tree root c.token_after.result token c.token_after.ensures.tree c.in-Some.is in
    kept_in_tree root (bounds_of c.args.range) c.parent.result c.if_error.result c.if_error.ensures
    (subst (λ n. IfSome n (IsInTree root)) (sym c.parent.ensures.parent) (parent_in_tree root token inside))

pub returns-in-None-clause-node : goal.returns-in-None-clause-node
returns-in-None-clause-node c =
    sym (no_error_there c.args.root.now (bounds_of c.args.range)
    (ap (token_from c.args.root.now) (sym c.start.ensures) ∙ sym c.token_after.ensures.token ∙ c.in-None.is))
