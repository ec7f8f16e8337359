use Rattle.std.proofs.Common.{◌≡◌, ◌∙◌, ◌≤◌, suc, Some, length, sym, ap, arith}
use Rattle.nix_values.specs.Preorder.{parent_before}
use Rattle.nix_values.specs.ValueDepths.{depth_under}
use Rattle.nix_values.proofs.DepthLemmas.{item_found, depth_known}
use Rattle.nix_values.proofs.nodes.Nodes.depth_inside.Goals as goal
use Rattle.nix_values.proofs.nodes.Nodes.depth_inside.Goals.{In-Some-get}

known : (c : In-Some-get) →
    let nodes = c.args.self.now.nodes.items in
    (depth_under nodes (parent_before (length nodes) (Some c.in-Some.number)) ≡ suc c.in-Some-get.around.now.depth)
    × (suc c.in-Some-get.around.now.depth ≤ length nodes)
known c =
    let nodes = c.args.self.now.nodes.items in
    depth_known nodes c.requires c.in-Some.number c.in-Some-get.around.now
    (item_found c.deref.result.now nodes c.in-Some.number c.in-Some-get.around.now c.deref.ensures.value c.in-Some-get.ensures.lookup.3.0
    c.in-Some-get.ensures.lookup.1)

pub returns-in-Some-get-clause-depth : goal.returns-in-Some-get-clause-depth
returns-in-Some-get-clause-depth c =
    let nodes = c.args.self.now.nodes in
    let k = known (goal.at.returns-in-Some-get-clause-depth c).In-Some-get in
    let is : c.saturating_add.result ≡ suc c.in-Some-get.around.now.depth =
    omega (arith, c.saturating_add.ensures, k.1, nodes.ok.0, nodes.ok.1, nodes.small) in
    is ∙ sym k.0 ∙ ap (λ o. depth_under nodes.items (parent_before (length nodes.items) o)) (sym c.in-Some.is)

pub returns-in-Some-get-clause-within : goal.returns-in-Some-get-clause-within
returns-in-Some-get-clause-within c =
    let k = known (goal.at.returns-in-Some-get-clause-within c).In-Some-get in
    omega (arith, c.saturating_add.ensures, k.1)
