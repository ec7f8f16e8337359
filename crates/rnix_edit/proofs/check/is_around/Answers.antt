use Rattle.std.proofs.Common.{rules, ◌≡◌, true, refl, ap, sym, ◌∙◌}
use Rattle.rnix_edit.specs.Steps.{steps_of, events_before, events_inside, steps_before}
use Rattle.rnix_edit.proofs.CheckLemmas.{after_entered, exited_entered, around_tested, none_around}
use Rattle.rnix_edit.proofs.check.is_around.Goals as goal

pub returns-then-skip_node : goal.returns-then-skip_node
returns-then-skip_node c =
    let root = c.args.root.now in
    let other = c.args.other.now in
    let entered = c.if-not-are_same_before.ensures.entered refl ∙ ap (events_inside c.args.old) c.preorder_with_tokens-old_walk.ensures.walk in
    let others = c.if-not-are_same_before.ensures.others refl ∙ ap (events_inside c.args.new) c.preorder_with_tokens-new_walk.ensures.walk in
    let same : c.are_same_before.result ≡ true = search rules in
    let before : steps_before c.args.new other ≡ steps_before c.args.old root =
    ap (λ es. steps_of (events_before c.args.new es)) (sym c.preorder_with_tokens-new_walk.ensures.walk) ∙ c.are_same_before.ensures.same.0 same
    ∙ ap (λ es. steps_of (events_before c.args.old es)) c.preorder_with_tokens-old_walk.ensures.walk in
    around_tested root other c.args.old c.args.new _ _ _ _ before (exited_entered c.args.new other _ _ others c.skip_node-2.ensures.found)
    c.if-skip_node.true (after_entered c.args.new other _ _ others c.skip_node-2.ensures.rest)
    (after_entered c.args.old root _ _ entered c.skip_node.ensures.rest) c.are_same_walks.ensures

pub returns-else-skip_node : goal.returns-else-skip_node
returns-else-skip_node c =
    let others = c.if-not-are_same_before.ensures.others refl ∙ ap (events_inside c.args.new) c.preorder_with_tokens-new_walk.ensures.walk in
    none_around c.args.root.now c.args.other.now c.args.old c.args.new _
    (exited_entered c.args.new c.args.other.now _ _ others c.skip_node-2.ensures.found) c.if-skip_node.false
