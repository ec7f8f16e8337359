use Rattle.std.proofs.Common.{◌≡◌, true, ap, subst, ◌∙◌}
use Rattle.rnix_edit.specs.Steps.{steps_of, steps_in, events_before, events_inside, steps_before, AreTaken}
use Rattle.rnix_edit.proofs.CheckLemmas.{after_entered, exited_entered, with_tested, none_with}
use Rattle.rnix_edit.proofs.check.is_with.Goals as goal

pub returns-then-skip_node : goal.returns-then-skip_node
returns-then-skip_node c =
    let root = c.args.root.now in
    let other = c.args.other.now in
    let new = c.args.new in
    let remaining = steps_of c.begins_before.new.events in
    let begun : c.begins_before.result ≡ true = c.if-not-begins_before.false in
    let entered = c.begins_before.ensures.entered begun ∙ ap (events_inside new) c.preorder_with_tokens-new_walk.ensures.walk in
    let taken : AreTaken c.begins_before.result (steps_before new other) (steps_in root) remaining =
    subst (λ es. AreTaken c.begins_before.result (steps_before new other) (steps_of es) remaining) c.preorder_with_tokens-old_walk.ensures.walk
    (subst (λ es. AreTaken c.begins_before.result (steps_of (events_before new es)) (steps_of c.preorder_with_tokens-old_walk.result) remaining)
    c.preorder_with_tokens-new_walk.ensures.walk c.begins_before.ensures.taken) in
    with_tested root other new _ _ _ remaining _ taken begun (exited_entered new other _ _ entered c.skip_node.ensures.found) c.if-skip_node.true
    (after_entered new other _ _ entered c.skip_node.ensures.rest) c.are_same_walks.ensures

pub returns-else-skip_node : goal.returns-else-skip_node
returns-else-skip_node c =
    let entered = c.begins_before.ensures.entered c.if-not-begins_before.false
    ∙ ap (events_inside c.args.new) c.preorder_with_tokens-new_walk.ensures.walk in
    none_with c.args.root.now c.args.other.now c.args.new _ (exited_entered c.args.new c.args.other.now _ _ entered c.skip_node.ensures.found)
    c.if-skip_node.false
