use Rattle.std.proofs.Common.{◌∙◌, Result, Ok, Err, IfOk, map, sym, ap, subst}
use Rattle.nix_values.specs.Built.{built_of}
use Rattle.nix_values.specs.Groups.{groups_of, AreDistinct}
use Rattle.nix_values.specs.ValueDepths.{entries_at}
use Rattle.nix_values.proofs.DepthLemmas.{come_later, preorder_is, preorder_all}
use Rattle.nix_values.proofs.DistinctLemmas.{order_distinct}
use Rattle.nix_values.proofs.nodes.Nodes.into_items.Goals as goal

if_ok_then : {T E : Type 0} (r : Result T E) (P Q : T → Type 0) → ((x : T) → P x → Q x) → IfOk r P → IfOk r Q
if_ok_then (Ok x) P Q f p = f x p
if_ok_then (Err e) P Q f p = p

pub returns-then-is_in_order : goal.returns-then-is_in_order
returns-then-is_in_order c =
    let same = preorder_all c.args.self.nodes.items c.requires (c.in_ok-is_in_order.ensures c.if-is_in_order.true) in
    if_ok_then c.into_all.result _ _ (λ items is. is ∙ same) c.into_all.ensures

pub into_ordered-requires : goal.into_ordered-requires
into_ordered-requires c =
    let values = map built_of c.args.self.nodes.items in
    subst AreDistinct (sym (c.as_slice.ensures.value ∙ c.in_ok-order.ensures)) (order_distinct (groups_of values) (come_later values))

pub returns : goal.returns
returns c =
    let nodes = c.args.self.nodes.items in
    if_ok_then c.into_ordered.result _ _
    (λ items is. is ∙ ap (entries_at nodes) (c.as_slice.ensures.value ∙ c.in_ok-order.ensures) ∙ preorder_is nodes c.requires) c.into_ordered.ensures
