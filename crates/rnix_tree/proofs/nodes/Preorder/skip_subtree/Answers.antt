use Rattle.{std.proofs.Common.{◌≤◌, length, ap, sym, subst, ◌∙◌}, rnix_green.specs.Walk.{from_leaving, node_events}}
use Rattle.rnix_tree.proofs.SkipLemmas.{node_events-shorter}
use Rattle.rnix_tree.proofs.nodes.Preorder.skip_subtree.Goals as goal

pub returns-clause-shorter : goal.returns-clause-shorter
returns-clause-shorter c =
    subst (λ es. length (node_events es) ≤ length (node_events c.args.self.now)) (sym (c.skip_subtree.ensures.walk ∙ ap (from_leaving 0) c.self.view_is))
    (node_events-shorter 0 c.args.self.now)
