use Rattle.std.proofs.Common.{◌≡◌, ◌∙◌, ◌++◌, List, append-nil, option_to_list, sym, ap, arith}
use Rattle.nix_values.specs.declared.data.Item.{Item}
use Rattle.nix_values.specs.ValueDepths.{entries_at}
use Rattle.nix_values.proofs.DepthLemmas.{one_taken}
use Rattle.nix_values.proofs.nodes.Nodes.into_ordered.Goals as goal
use Rattle.nix_values.proofs.nodes.Nodes.into_ordered.Goals.{in-Some+in_ok-push, in_default}

pub loop-number-preserved : goal.loop-number-preserved
loop-number-preserved c =
    let items : List Item = c.loop-number.items.items in
    let longer : c.match-take.items.items ≡ items ++ option_to_list c.take.result =
    elim c.match-take.branch [
      | in-Some+in_ok-push w ↦
          ap (λ v. v.items) w.items-is ∙ w.in_ok-push.ensures.items ∙ ap (λ o. items ++ option_to_list o) (sym w.in-Some.is)
      | in_default w ↦
          ap (λ v. v.items) w.items-is ∙ sym (append-nil items) ∙ ap (λ o. items ++ option_to_list o) (sym w.in_default.is)
    ] in
    let before = c.loop-number.invariant in
    let step =
    one_taken c.args.order.now c.loop-number.number-index (omega arith) c.loop-number.self.nodes.items c.take.new.self.nodes.items items
    c.match-take.items.items c.take.result (entries_at c.args.self.nodes.items c.args.order.now) c.take.ensures.taken c.take.ensures.others longer
    before.taken before.distinct in
    record { taken = step.0; distinct = step.1 }
