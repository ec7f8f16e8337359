use Rattle.std.proofs.Common.{◌≡◌, sym, subst, ◌∙◌}
use Rattle.std.proofs.lemmas.Bool.{false≢true}
use Rattle.std.specs.Bool.{Decides}
use Rattle.rnix_edit.specs.Steps.{steps_of, steps_after, IsClosingTaken}
use Rattle.rnix_edit.proofs.CheckLemmas.{after_remaining, inside_tested}
use Rattle.rnix_edit.proofs.check.is_inside.Goals as goal

pub returns-then-takes_closing : goal.returns-then-takes_closing
returns-then-takes_closing c =
    let root = c.args.root.now in
    let other = c.args.other.now in
    let remaining = steps_of c.takes_closing.new.events in
    let comes : IsClosingTaken c.takes_closing.result (steps_after c.args.new other) remaining =
    subst (λ steps. IsClosingTaken c.takes_closing.result steps remaining)
    (after_remaining c.args.new other _ _ c.preorder_with_tokens-new_walk.ensures.walk c.skip_node-2.ensures.rest) c.takes_closing.ensures in
    let same : Decides c.are_same_walks.result (steps_after c.args.old root ≡ remaining) =
    subst (λ steps. Decides c.are_same_walks.result (steps ≡ remaining))
    (after_remaining c.args.old root _ _ c.preorder_with_tokens-old_walk.ensures.walk c.skip_node.ensures.rest) c.are_same_walks.ensures in
    inside_tested root c.args.old other c.args.new _ _ remaining (c.is_with.ensures.0 c.if-not-is_with.false) comes c.if-takes_closing.true same

pub returns-else-takes_closing : goal.returns-else-takes_closing
returns-else-takes_closing c =
    let other = c.args.other.now in
    let remaining = steps_of c.takes_closing.new.events in
    let comes : IsClosingTaken c.takes_closing.result (steps_after c.args.new other) remaining =
    subst (λ steps. IsClosingTaken c.takes_closing.result steps remaining)
    (after_remaining c.args.new other _ _ c.preorder_with_tokens-new_walk.ensures.walk c.skip_node-2.ensures.rest) c.takes_closing.ensures in
    (λ is. absurd (false≢true (sym c.if-takes_closing.false ∙ is)), λ h. comes.found (h.fits, h.token))
