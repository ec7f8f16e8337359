use Rattle.std.proofs.Common.{◌≡◌, ◌∙◌, ◌++◌, ◌∷◌, [], List, ℕ, length, map, take, drop, take-append-drop, sym, ap, subst, arith}
use Rattle.std.proofs.lemmas.List.{length-map}
use Rattle.std.specs.List.{range_with_len}
use Rattle.nix_values.specs.Built.{built_of}
use Rattle.nix_values.specs.Groups.{groups_of, innermost}
use Rattle.nix_values.proofs.DepthLemmas.{come_later, groups_len}
use Rattle.nix_values.proofs.InOrderLemmas.{AreInOrder, in_order_none, in_order_more, in_order_all}
use Rattle.nix_values.proofs.nodes.Nodes.is_in_order.Goals as goal

pub loop-number-init : goal.loop-number-init
loop-number-init c =
    let groups = groups_of (map built_of c.args.self.now.nodes.items) in
    subst (AreInOrder groups 0) (sym c.new-around.ensures.items) (in_order_none groups)

pub loop-number-preserved : goal.loop-number-preserved
loop-number-preserved c =
    let nodes = c.args.self.now.nodes in
    let values = map built_of nodes.items in
    let groups = groups_of values in
    let depth = c.node-item.result.depth in
    let around : List ℕ = c.loop-number.around.items in
    let len : length groups ≡ length nodes.items = groups_len 0 values ∙ length-map nodes.items built_of in
    subst (AreInOrder groups _) (sym (c.in_ok-push.ensures.items ∙ ap (λ (ns : List ℕ). ns ++ c.loop-number.number ∷ []) c.truncate.ensures.items))
    (in_order_more groups (come_later values) c.loop-number.number (omega (arith, len, ap length c.deref-node-items.ensures.value, c.loop-number-test.true))
    (take depth around) (drop depth around)
    (subst (AreInOrder groups c.loop-number.number) (sym (take-append-drop depth around)) c.loop-number.invariant)
    (sym c.group.ensures ∙ c.is_inside_last.ensures c.if-not-is_inside_last.false ∙ ap (innermost 0) (c.as_slice.ensures.value ∙ c.truncate.ensures.items)))

pub returns : goal.returns
returns c = λ t.
    let nodes = c.args.self.now.nodes in
    let values = map built_of nodes.items in
    let groups = groups_of values in
    let len : length groups ≡ length nodes.items = groups_len 0 values ∙ length-map nodes.items built_of in
    in_order_all groups c.loop-number.number c.loop-number.around.items
    (omega (arith, len, ap length c.deref-node-items.ensures.value, c.loop-number-test.false))
    (omega (arith, len, ap length c.deref-node-items.ensures.value, c.loop-number.auto.number-end))
    c.loop-number.invariant
    ∙ ap (range_with_len 0) (groups_len 0 values)
